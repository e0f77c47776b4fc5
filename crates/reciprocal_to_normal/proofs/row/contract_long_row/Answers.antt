-- The columns of i turns are written; the last six, of which some may be written anew, end the row.
use Prim.Native.Nat.{◌+◌, ◌*◌, ◌-◌, ◌≤◌}
use mathlib.Core.Path.{◌≡◌}
use Rattle.planes.proofs.RegionLaws.{split_to}
use Rattle.reciprocal_to_normal.proofs.ColumnLaws.{row_block}
use native.Mathlib.Omega.{arith}
use Rattle.reciprocal_to_normal.proofs.row.contract_long_row.Goals as goal

pub loop-i-preserved : goal.loop-i-preserved
loop-i-preserved c =
    let a = c.args in
    let i = c.loop-i.i in
    let j = c.min-j.result in
    let done = a.n - (a.n - 6 * i) in
    let next = c.min-j.ensures in
    let below : 6 * i ≤ a.n = omega (arith, c.div_ceil-i-end.ensures, c.loop-i-test.true) in
    let start : j ≤ done = omega (arith, next) in
    let reach : done ≤ j + 6 = omega (arith, next) in
    let last : j + 6 ≤ a.n = omega (arith, next) in
    let end : j + 6 ≡ a.n - (a.n - 6 * (i + 1)) = omega (arith, next) in
    split_to (j + 6) (a.n - (a.n - 6 * (i + 1))) end
    (row_block a.ro a.m a.v a.n c.requires.2 done j c.loop-i.invariant c.dot_columns-t.ensures c.put.ensures start reach last)
