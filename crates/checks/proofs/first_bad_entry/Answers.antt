-- The entries before number j * columns + i are passed: the first to fail from there on is the first of all.
use Prim.Native.Nat.{◌+◌, ◌*◌, ◌<◌}
use mathlib.Core.Path.{◌≡◌, sym, ◌∙◌}
use native.Mathlib.Omega.{arith}
use Rattle.std.proofs.Common.{rules}
use lib.IntN.{ℤ}
use mir.Val.{to_z, of_z}
use mir.Syntax.{w64}
use Rattle.phonon.specs.Number.{int}
use Rattle.phonon.proofs.Laws.{pair_lt}
use Rattle.checks.proofs.Laws.{passed_more, passed_same, failing_here, failing_none}
use Rattle.checks.proofs.first_bad_entry.Invariants.{fine}
use Rattle.checks.proofs.first_bad_entry.Goals as goal
use Rattle.checks.proofs.first_bad_entry.Goals.{In-loop-i, After-vector_range}

-- the entry is one of the table
entry : (c : In-loop-i) → c.rows.j * c.args.columns + c.loop-i.i < c.args.rows * c.args.columns
entry c = pair_lt c.rows-test.true c.loop-i-test.true

-- what the call told of the entry
tested :
    (c : After-vector_range) → c.vector_range.result ≡ fine c.args.vectors c.args.table.now (c.rows.j * c.args.columns + c.loop-i.i)
tested c =
    let n = c.rows.j * c.args.columns + c.loop-i.i in
    let a : ℤ = int c.args.table.now (2 * n) in
    let b : ℤ = int c.args.table.now (2 * n + 1) in
    let count : to_z w64 (of_z w64 a) ≡ a = search rules in
    let start : to_z w64 (of_z w64 b) ≡ b = search rules in
    rw (count, start) at c.vector_range.ensures

pub loop-i-preserved : goal.loop-i-preserved
loop-i-preserved c =
    let p = goal.at.loop-i-preserved c in
    let l = c.loop-i in (
      search rules,
      l.invariant.1,
      passed_same (omega arith)
          (passed_more l.invariant.2 (entry p.In-loop-i) (sym (tested p.After-vector_range) ∙ c.if-not-vector_range.false)),
    )

pub returns-after-rows : goal.returns-after-rows
returns-after-rows c =
    let all : c.rows.j ≡ c.args.rows = omega arith in
    rw c.requires (c.rows.invariant.1 ∙ failing_none (rw all at c.rows.invariant.2))

pub returns-then-not-vector_range : goal.returns-then-not-vector_range
returns-then-not-vector_range c =
    let p = goal.at.returns-then-not-vector_range c in
    rw c.requires (failing_here c.loop-i.invariant.2 (entry p.In-loop-i) (sym (tested p.After-vector_range) ∙ c.if-not-vector_range.true))
