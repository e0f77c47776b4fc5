-- After each row, and after t entries of a row, the sums tell of what they have added.
use native.Mathlib.Omega.{arith}
use mathlib.Core.Path.{◌≡◌, ◌∙◌}
use mathlib.Core.List.{[]}
use lib.ListN.{length}
use Rattle.std.proofs.lemmas.List.{length-replicate, get_or_default}
use Rattle.checks.proofs.Laws.{told_none_yet, told_entry, told_row, told_all}
use Rattle.checks.proofs.column_sums.Goals as goal

pub loop-row-init : goal.loop-row-init
loop-row-init g c = told_none_yet _ _ _ (length-replicate _ _)

pub loop-t-preserved : goal.loop-t-preserved
loop-t-preserved g c =
    let row = c.row-item.is ∙ get_or_default c.args.rows.now c.loop-row.row-index _ [] c.loop-row-test.true in
    rw row (told_entry c.loop-t.invariant (omega arith))

pub loop-row-preserved : goal.loop-row-preserved
loop-row-preserved g c =
    let all : c.loop-t.t ≡ g.row.N = omega arith in
    told_row (rw all at c.loop-t.invariant)

pub returns : goal.returns
returns g c =
    let all : c.loop-row.row-index ≡ length c.args.rows.now = omega arith in
    told_all (rw all at c.loop-row.invariant)
