-- The tests of the triplet and those of the bath each gave a number; the lower is the refusal.
use mathlib.Core.Path.{refl, sym, ◌∙◌}
use Rattle.phonon.specs.Refusal.{triplet_refusal, joined_refusal}
use Rattle.phonon.proofs.Lowest.{stop, join}
use Rattle.checks.proofs.MeasureLaws.{within_told, beyond_told}
use Rattle.refusals.proofs.TableLaws.{bath_same}
use Rattle.refusals.proofs.joined_set.check_joined.Goals as goal

pub returns-in_default : goal.returns-in_default
unfolding joined_refusal
returns-in_default c = λ v u w p r q. let b = beyond_told _ _ (sym c.check_measures.ensures ∙ c.in_default.is) in sym (stop 0 _ refl b.0)

pub returns : goal.returns
unfolding joined_refusal triplet_refusal
returns c = λ v u w p r q.
    let z = (within_told _ _ (sym c.in-Ok.ensures)).1 in
    join _ _ (c.check_triplet-one.ensures v w p q) (bath_same _ _ _ _ u c.check_bath-bath.ensures z r) c.lower_of.ensures
