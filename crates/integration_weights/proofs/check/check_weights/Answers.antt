-- One test.
use mathlib.Core.Path.{refl}
use Rattle.phonon.specs.Tests.{all_true, all_true_after}
use Rattle.checks.proofs.AnswerLaws.{of_one}
use Rattle.integration_weights.specs.Refusal.{weight_lengths}
use Rattle.integration_weights.proofs.check.check_weights.Goals as goal

pub returns : goal.returns
unfolding weight_lengths all_true all_true_after
returns c = of_one _ refl c.require.ensures
