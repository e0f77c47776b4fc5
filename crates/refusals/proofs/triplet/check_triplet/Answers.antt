-- The groups of tests each gave a number; the lowest is the refusal, and where there is none the phases decide.
use native.Mathlib.Omega.{arith}
use mathlib.Core.Path.{◌≡◌, refl, sym, ◌∙◌}
use mathlib.Core.Bool.{true}
use Rattle.std.proofs.Common.{rules}
use lib.ListN.{length}
use Rattle.phonon.specs.Handed.{tables_of}
use Rattle.phonon.specs.Limits.{sizes_of}
use Rattle.phonon.specs.Refusal.{measures_ok, triplet_refusal}
use Rattle.phonon.proofs.Answers.{number_positive}
use Rattle.phonon.proofs.Lowest.{none_of_three, stop, join3, before_last, at_last}
use Rattle.checks.proofs.AnswerLaws.{handed_on, of_one}
use Rattle.checks.proofs.MeasureLaws.{within_told, beyond_told}
use Rattle.refusals.proofs.TableLaws.{phases_safe, slots_same}
use Rattle.refusals.proofs.triplet.check_triplet.Goals as goal
use Rattle.refusals.proofs.triplet.check_triplet.Goals.{In-Ok}

good_measures : (c : In-Ok) → (measures_ok c.args.tables.now.measures ≡ true) × (c.in-Ok.z ≡ sizes_of c.args.tables.now.measures c.args.tables.now.crystal.forces.form)
good_measures c = within_told _ _ (sym c.in-Ok.ensures)

pub returns-in_default : goal.returns-in_default
unfolding triplet_refusal
returns-in_default c = λ v w p q. let b = beyond_told _ _ (sym c.check_measures.ensures ∙ c.in_default.is) in sym (stop 0 _ refl b.0)

pub returns-in_err-lower_of : goal.returns-in_err-lower_of
unfolding triplet_refusal
returns-in_err-lower_of c = λ v w p q.
    let z = (good_measures (goal.at.returns-in_err-lower_of c).In-Ok).1 in
    let e = join3 _ _ _ c.check_tables.ensures (slots_same (λ y. y.slots) _ v w c.check_slots-slots.ensures z p q) c.check_points-points.ensures c.lower_of.ensures c.lower_of-2.ensures in
    rw (handed_on _ c.from_residual.ensures.1)
    (sym (before_last 9 _ _ refl (rw c.in_err-lower_of.was at e) (number_positive _)))

pub phases_ok-requires : goal.phases_ok-requires
phases_ok-requires c =
    let n = none_of_three c.lower_of.ensures c.lower_of-2.ensures (rw c.in_ok-lower_of.was refl) in
    let three : length c.args.triplet ≡ 3 = search rules in
    phases_safe (tables_of c.args.tables.now) 3 c.args.triplet (sym c.check_tables.ensures ∙ n.0) (sym c.check_points-points.ensures ∙ n.2) (omega (arith, three))

pub returns : goal.returns
unfolding triplet_refusal
returns c = λ v w p q.
    let z = (good_measures (goal.at.returns c).In-Ok).1 in
    let e = join3 _ _ _ c.check_tables.ensures (slots_same (λ y. y.slots) _ v w c.check_slots-slots.ensures z p q) c.check_points-points.ensures c.lower_of.ensures c.lower_of-2.ensures in
    of_one _ c.phases_ok.ensures c.require.ensures ∙ sym (at_last _ _ (rw c.in_ok-lower_of.was at e))
