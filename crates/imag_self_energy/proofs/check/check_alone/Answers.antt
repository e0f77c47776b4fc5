-- The first of three tests that fails.
use native.Mathlib.Omega.{arith}
use mathlib.Core.Path.{◌≡◌, refl, sym, ◌∙◌}
use mathlib.Core.Bool.{◌&&◌}
use Rattle.phonon.specs.Tests.{all_true, all_true_after}
use Rattle.phonon.specs.Refusal.{alone_lengths, alone_finite}
use Rattle.phonon.proofs.Lowest.{pass}
use Rattle.checks.proofs.AnswerLaws.{walked, turned, of_one}
use Rattle.checks.proofs.MeasureLaws.{room}
use Rattle.imag_self_energy.proofs.check.check_alone.Goals as goal
use Rattle.imag_self_energy.proofs.check.check_alone.Goals.{After-all_finite-2}

real : (c : After-all_finite-2) → (c.is_finite.result && c.all_finite.result) && c.all_finite-2.result
    ≡ alone_finite c.args.cutoff c.args.frequencies.now c.args.strengths.now
unfolding alone_finite all_true all_true_after
real c = rw (c.is_finite.ensures, c.all_finite.ensures, c.all_finite-2.ensures) refl

pub overflow_mul-bands : goal.overflow_mul-bands
overflow_mul-bands c = omega (arith, (room _ c.requires).bands)

pub overflow_mul-sized : goal.overflow_mul-sized
overflow_mul-sized c = omega (arith, (room _ c.requires).frequencies)

pub overflow_mul-sized-2 : goal.overflow_mul-sized-2
overflow_mul-sized-2 c = omega (arith, (room _ c.requires).row)

pub overflow_mul-sized-3 : goal.overflow_mul-sized-3
overflow_mul-sized-3 c = omega (arith, (room _ c.requires).slots)

pub returns-in_err-require : goal.returns-in_err-require
unfolding alone_lengths all_true all_true_after
returns-in_err-require c = turned _ _ _ refl refl c.require.ensures c.in_err-require.was c.from_residual.ensures.1 ∙ sym (pass _ _ c.requires)

pub returns-in_err-require-2 : goal.returns-in_err-require-2
unfolding alone_lengths all_true all_true_after
returns-in_err-require-2 c =
    let e = real (goal.at.returns-in_err-require-2 c).After-all_finite-2 in
    turned _ _ _ refl e c.require-2.ensures c.in_err-require-2.was c.from_residual-in_err-require-2.ensures.1
    ∙ sym (pass _ _ c.requires ∙ walked _ _ refl c.require.ensures c.in_ok-require.was)

pub returns : goal.returns
unfolding alone_lengths all_true all_true_after
returns c =
    let e = real (goal.at.returns c).After-all_finite-2 in
    of_one _ c.cutoff_ok.ensures c.require-3.ensures
    ∙ sym (pass _ _ c.requires ∙ walked _ _ refl c.require.ensures c.in_ok-require.was ∙ walked _ _ e c.require-2.ensures c.in_ok-require-2.was)
