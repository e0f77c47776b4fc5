-- The range holds the number, read back from its bits.
use mir.ValLaws.{to_z-of_z}
use mir.Syntax.{w64}
use Rattle.checks.proofs.RangeLaws.{held_signed}
use Rattle.checks.proofs.is_within.Goals as goal

pub returns : goal.returns
returns c =
    let low = to_z-of_z w64 _ c.ranges.low in
    let high = to_z-of_z w64 _ c.ranges.high in
    let x = to_z-of_z w64 _ c.ranges.x in
    let n = c.new.ensures in
    held_signed _ (rw low at n.start) (rw high at n.end) n.exhausted (rw x at c.contains.ensures.value)
