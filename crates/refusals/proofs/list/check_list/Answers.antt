-- The groups of tests each gave a number; the lowest is the refusal, and where there is none the phases decide.
use Prim.Native.Nat.{◌*◌}
use native.Mathlib.Omega.{arith}
use mathlib.Core.Path.{◌≡◌, refl, sym, ◌∙◌}
use mathlib.Core.Bool.{true}
use borrow.Author.Tests.{eqb-true}
use lib.ListN.{length}
use Rattle.phonon.specs.Handed.{tables_of}
use Rattle.phonon.specs.Limits.{sizes_of}
use Rattle.phonon.specs.Refusal.{measures_ok, count_tests, list_refusal}
use Rattle.phonon.proofs.Answers.{number_positive}
use Rattle.phonon.proofs.Lowest.{one_fails, none_of_three, lower_none, join, join3, passing, before_last, at_last}
use Rattle.checks.proofs.AnswerLaws.{turned, handed_on, of_one}
use Rattle.checks.proofs.MeasureLaws.{within_told, beyond_told}
use Rattle.refusals.proofs.TableLaws.{phases_safe, slots_same}
use Rattle.refusals.proofs.list.check_list.Goals as goal
use Rattle.refusals.proofs.list.check_list.Goals.{In-Ok}

good_measures : (c : In-Ok) → (measures_ok c.args.tables.now.measures ≡ true) × (c.in-Ok.z ≡ sizes_of c.args.tables.now.measures c.args.tables.now.crystal.forces.form)
good_measures c = within_told _ _ (sym c.in-Ok.ensures)

pub returns-in_default : goal.returns-in_default
unfolding list_refusal
returns-in_default c = λ v w p q. let b = beyond_told _ _ (sym c.check_measures.ensures ∙ c.in_default.is) in sym (one_fails (count_tests c.args.list c.args.triplets.now) _ refl b.0)

pub returns-in_err-require : goal.returns-in_err-require
unfolding list_refusal
returns-in_err-require c = λ v w p q. turned _ _ _ refl c.list_ok.ensures c.require.ensures c.in_err-require.was c.from_residual.ensures.1

pub returns-in_err-lower_of : goal.returns-in_err-lower_of
unfolding list_refusal
returns-in_err-lower_of c = λ v w p q.
    let z = (good_measures (goal.at.returns-in_err-lower_of c).In-Ok).1 in
    let g = join3 _ _ _ c.check_tables.ensures (slots_same (λ y. c.args.list * y.slots) _ v w c.check_slots-slots.ensures z p q) c.check_points-points.ensures c.lower_of.ensures c.lower_of-2.ensures in
    let e = join _ _ c.check_count-count.ensures g c.lower_of-3.ensures in
    rw (handed_on _ c.from_residual-in_err-lower_of.ensures.1)
    (sym (before_last 9 _ _ refl (rw c.in_err-lower_of.was at e) (number_positive _)))

pub list_phases_ok-requires : goal.list_phases_ok-requires
list_phases_ok-requires c =
    let f = lower_none _ _ (sym c.lower_of-3.ensures ∙ rw c.in_ok-lower_of.was refl) in
    let n = none_of_three c.lower_of.ensures c.lower_of-2.ensures f.1 in
    let h = passing (count_tests c.args.list c.args.triplets.now) refl (sym c.check_count-count.ensures ∙ f.0) in
    phases_safe (tables_of c.args.tables.now) (c.args.list * 3) c.args.triplets.now (sym c.check_tables.ensures ∙ n.0) (sym c.check_points-points.ensures ∙ n.2)
    (omega (arith, eqb-true (length c.args.triplets.now) (3 * c.args.list) h.1.0))

pub returns : goal.returns
unfolding list_refusal
returns c = λ v w p q.
    let z = (good_measures (goal.at.returns c).In-Ok).1 in
    let g = join3 _ _ _ c.check_tables.ensures (slots_same (λ y. c.args.list * y.slots) _ v w c.check_slots-slots.ensures z p q) c.check_points-points.ensures c.lower_of.ensures c.lower_of-2.ensures in
    let e = join _ _ c.check_count-count.ensures g c.lower_of-3.ensures in
    of_one _ c.list_phases_ok.ensures c.require-2.ensures ∙ sym (at_last _ _ (rw c.in_ok-lower_of.was at e))
