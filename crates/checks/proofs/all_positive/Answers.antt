-- The scan finds none exactly where every entry passes.
use Rattle.phonon.specs.Refusal.{masses_ok}
use Rattle.checks.proofs.Laws.{none_failing}
use Rattle.checks.proofs.all_positive.Goals as goal

pub returns : goal.returns
unfolding masses_ok
returns c = none_failing _ _ c.first_not_positive.ensures c.is_none.ensures
