-- The first of two tests that fails.
use mathlib.Core.Path.{refl, sym, ◌∙◌}
use Rattle.checks.proofs.AnswerLaws.{walked, turned, of_one}
use Rattle.integration_weights.specs.Refusal.{width_ok}
use Rattle.integration_weights.proofs.check.check_width.Goals as goal

pub returns-in_err-require : goal.returns-in_err-require
returns-in_err-require c = turned _ _ _ refl c.is_finite.ensures c.require.ensures c.in_err-require.was c.from_residual.ensures.1

pub returns : goal.returns
unfolding width_ok
returns c = of_one _ refl c.require-2.ensures ∙ sym (walked _ _ c.is_finite.ensures c.require.ensures c.in_ok-require.was)
