-- The first of three tests that fails. The last band, as a signed number, is the definition's.
use Prim.Native.Nat.{◌-◌, ◌*◌}
use native.Mathlib.Omega.{arith}
use mathlib.Core.Path.{◌≡◌, refl, sym, ◌∙◌}
use lib.ListN.{drop}
use mir.ValLaws.{to_z_pos}
use mir.Syntax.{w64}
use Rattle.phonon.specs.Tests.{all_true, all_true_after}
use Rattle.phonon.specs.Refusal.{lowest}
use Rattle.phonon.proofs.Lowest.{pass}
use Rattle.checks.proofs.AnswerLaws.{walked, turned, of_one}
use Rattle.checks.proofs.MeasureLaws.{room}
use Rattle.integration_weights.specs.Refusal.{band_lengths, bands_ok, band_tests}
use Rattle.integration_weights.proofs.check.check_bands.Goals as goal
use Rattle.integration_weights.proofs.check.check_bands.Goals.{After-all_within, In_ok-require}

-- the lengths are right
sized : (c : In_ok-require) → lowest (band_tests c.args.m c.args.bands.now c.args.frequencies.now) ≡ lowest (drop 2 (band_tests c.args.m c.args.bands.now c.args.frequencies.now))
unfolding band_lengths all_true all_true_after
sized c = pass _ _ c.requires ∙ walked _ _ refl c.require.ensures c.in_ok-require.was

inside : (c : After-all_within) → c.all_within.result ≡ bands_ok c.args.m c.args.bands.now
unfolding bands_ok
inside c =
    let r = room _ c.requires in
    let last = to_z_pos w64 (3 * c.args.m.atoms - 1) (omega (arith, r.bands)) in
    rw last at c.all_within.ensures

pub overflow_mul-nb : goal.overflow_mul-nb
overflow_mul-nb c = omega (arith, (room _ c.requires).bands)

pub overflow_mul-sized : goal.overflow_mul-sized
overflow_mul-sized c = omega (arith, (room _ c.requires).frequencies)

pub returns-in_err-require : goal.returns-in_err-require
unfolding band_lengths all_true all_true_after
returns-in_err-require c = turned _ _ _ refl refl c.require.ensures c.in_err-require.was c.from_residual.ensures.1 ∙ sym (pass _ _ c.requires)

pub overflow_sub-nb : goal.overflow_sub-nb
overflow_sub-nb c = omega (arith, (room _ c.requires).some)

pub overflow_cast-nb : goal.overflow_cast-nb
overflow_cast-nb c = record { sfits = omega (arith, (room _ c.requires).bands) }

pub returns-in_err-require-2 : goal.returns-in_err-require-2
returns-in_err-require-2 c =
    let p = goal.at.returns-in_err-require-2 c in
    turned _ _ _ refl (inside p.After-all_within) c.require-2.ensures c.in_err-require-2.was c.from_residual-in_err-require-2.ensures.1 ∙ sym (sized p.In_ok-require)

pub returns : goal.returns
returns c =
    let p = goal.at.returns c in
    of_one _ c.all_finite.ensures c.require-3.ensures
    ∙ sym (sized p.In_ok-require ∙ walked _ _ (inside p.After-all_within) c.require-2.ensures c.in_ok-require-2.was)
