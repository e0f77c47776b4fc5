-- The code is the list of tests, written out.
use mathlib.Core.Path.{refl}
use Rattle.phonon.specs.Tests.{all_true, all_true_after}
use Rattle.phonon.specs.Refusal.{buffer_lengths}
use Rattle.checks.proofs.AnswerLaws.{of_one}
use Rattle.checks.proofs.groups.check_slots.Goals as goal

pub returns : goal.returns
unfolding buffer_lengths all_true all_true_after
returns c = of_one _ refl c.require.ensures
