-- The scan finds none exactly where every entry passes.
use Rattle.phonon.specs.Tests.{all_finite}
use Rattle.checks.proofs.Laws.{none_failing}
use Rattle.checks.proofs.all_finite.Goals as goal

pub returns : goal.returns
unfolding all_finite
returns c = none_failing _ _ c.first_not_finite.ensures c.is_none.ensures
