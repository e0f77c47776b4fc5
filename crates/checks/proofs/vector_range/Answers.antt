-- With a count of at least 1 and a start of at least 0 both are natural numbers, and first <= vectors - n is first + n <= vectors.
use Prim.Native.Nat.{◌+◌, ◌-◌}
use mathlib.Core.Path.{◌≡◌, sym}
use mathlib.Core.Bool.{false}
use native.Mathlib.Omega.{arith}
use lib.IntN.{pos}
use lib.Dec.{leb}
use lib.Signed.{lt_z}
use borrow.Author.Tests.{lt-leb}
use mir.ValLaws.{to_z-of_z}
use mir.Syntax.{w64}
use Rattle.phonon.specs.Tests.{vector_range}
use Rattle.checks.proofs.Laws.{leb_same}
use Rattle.checks.proofs.RangeLaws.{no_start, naturals}
use Rattle.checks.proofs.vector_range.Goals as goal
use Rattle.checks.proofs.vector_range.Goals.{After-index_of-first}

pub returns-then-start-lt0 : goal.returns-then-start-lt0
returns-then-start-lt0 c = no_start _ _ _ (rw (to_z-of_z w64 _ c.ranges.start) at c.if-start-lt0.true)

-- the range's test from the two indices that the calls gave
ranged :
    (c : After-index_of-first)
    → vector_range c.args.vectors c.args.count c.args.start ≡ leb (c.index_of-first.result + c.index_of-n.result) c.args.vectors
ranged c =
    let count = to_z-of_z w64 _ c.ranges.count in
    let start = to_z-of_z w64 _ c.ranges.start in
    rw (rw count at c.index_of-n.ensures, rw start at c.index_of-first.ensures)
    (let some : lt_z c.args.count (pos 1) ≡ false = cc in naturals _ _ _ some (rw start at c.if-start-lt0.false))

pub returns-then-vectors-n : goal.returns-then-vectors-n
returns-then-vectors-n c =
    let v = c.args.vectors in
    rw (ranged (goal.at.returns-then-vectors-n c).After-index_of-first) (sym (lt-leb (c.index_of-first.result + c.index_of-n.result) v (omega arith)))

pub returns : goal.returns
returns c =
    let v = c.args.vectors in
    let n = c.index_of-n.result in
    let f = c.index_of-first.result in
    rw (ranged (goal.at.returns c).After-index_of-first) (leb_same f (v - n) (f + n) v (λ h. omega arith) (λ h. omega arith))
