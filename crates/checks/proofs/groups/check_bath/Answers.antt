-- The first of three tests that fails.
use mathlib.Core.Path.{refl, sym, ◌∙◌}
use Rattle.phonon.specs.Tests.{all_true, all_true_after}
use Rattle.phonon.specs.Refusal.{bath_lengths}
use Rattle.checks.proofs.AnswerLaws.{walked, turned, of_one}
use Rattle.checks.proofs.groups.check_bath.Goals as goal

pub returns-in_err-require : goal.returns-in_err-require
unfolding bath_lengths all_true all_true_after
returns-in_err-require c = turned _ _ _ refl refl c.require.ensures c.in_err-require.was c.from_residual.ensures.1

pub returns-in_err-require-2 : goal.returns-in_err-require-2
unfolding bath_lengths all_true all_true_after
returns-in_err-require-2 c =
    turned _ _ _ refl c.bath_finite.ensures c.require-2.ensures c.in_err-require-2.was c.from_residual-in_err-require-2.ensures.1
    ∙ sym (walked _ _ refl c.require.ensures c.in_ok-require.was)

pub returns : goal.returns
unfolding bath_lengths all_true all_true_after
returns c =
    of_one _ c.bath_ok.ensures c.require-3.ensures
    ∙ sym (walked _ _ refl c.require.ensures c.in_ok-require.was ∙ walked _ _ c.bath_finite.ensures c.require-2.ensures c.in_ok-require-2.was)
