-- The groups of tests each gave an answer; the lowest is the refusal.
use native.Mathlib.Omega.{arith}
use mathlib.Core.Path.{◌≡◌, refl, sym, ◌∙◌}
use mathlib.Core.Bool.{true}
use Rattle.phonon.specs.Sets.{measures_of}
use Rattle.phonon.specs.Refusal.{measures_ok}
use Rattle.phonon.proofs.Lowest.{stop, join, join3}
use Rattle.phonon.proofs.Accepted.{measured_facts}
use Rattle.checks.proofs.AnswerLaws.{passed, failed, handed_on}
use Rattle.checks.proofs.MeasureLaws.{room}
use Rattle.integration_weights.specs.Refusal.{weights_refusal}
use Rattle.integration_weights.proofs.check.check.Goals as goal
use Rattle.integration_weights.proofs.check.check.Goals.{In_ok-require}

good_measures : (c : In_ok-require) → measures_ok (measures_of c.args.m) ≡ true
good_measures c = rw c.from-all.ensures at (sym c.measures_ok.ensures ∙ passed _ _ c.require.ensures c.in_ok-require.was)

pub returns-in_err-require : goal.returns-in_err-require
unfolding weights_refusal
returns-in_err-require c =
    let f = failed _ _ c.require.ensures c.in_err-require.was in
    rw (handed_on _ c.from_residual.ensures.1, f.1) (sym (stop 0 _ refl (rw c.from-all.ensures at (sym c.measures_ok.ensures ∙ f.0))))

pub overflow_mul-nb : goal.overflow_mul-nb
overflow_mul-nb c = omega (arith, (room _ (good_measures (goal.at.overflow_mul-nb c).In_ok-require)).bands)

pub overflow_mul-m : goal.overflow_mul-m
overflow_mul-m c = omega (arith, (room _ (good_measures (goal.at.overflow_mul-m c).In_ok-require)).row)

pub overflow_mul-m-2 : goal.overflow_mul-m-2
overflow_mul-m-2 c = omega (arith, (room _ (good_measures (goal.at.overflow_mul-m-2 c).In_ok-require)).slots)

pub check_points-points-requires : goal.check_points-points-requires
check_points-points-requires c =
    let m = measured_facts _ (good_measures (goal.at.check_points-points-requires c).In_ok-require) in
    (m.grid, omega (arith, m.grid_most))

pub returns : goal.returns
unfolding weights_refusal
returns c =
    let width = rw c.width_of.ensures at c.check_width-width.ensures in
    let tables = rw c.from-all.ensures at c.check_bands-tables.ensures in
    join _ _ tables (join3 _ _ _ c.check_weights-lent.ensures c.check_points-points.ensures width c.lower_of.ensures c.lower_of-2.ensures) c.lower_of-3.ensures
