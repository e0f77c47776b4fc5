-- The scan finds none exactly where every entry passes.
use mir.ValLaws.{to_z-of_z}
use mir.Syntax.{w64}
use Rattle.phonon.specs.Tests.{all_within}
use Rattle.checks.proofs.Laws.{none_failing}
use Rattle.checks.proofs.all_within.Goals as goal

pub returns : goal.returns
unfolding all_within
returns c =
    let low = to_z-of_z w64 _ c.ranges.low in
    let high = to_z-of_z w64 _ c.ranges.high in
    none_failing _ _ (simp (low, high) at c.first_outside.ensures) c.is_none.ensures
