-- The scan finds none exactly where every entry passes.
use Rattle.phonon.specs.Refusal.{ranges_ok}
use Rattle.checks.proofs.Laws.{none_failing}
use Rattle.checks.proofs.all_ranges.Goals as goal

pub returns : goal.returns
unfolding ranges_ok
returns c = none_failing _ _ c.first_bad_range.ensures c.is_none.ensures
