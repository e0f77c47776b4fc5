-- After i turns the sum is that of the first i places of the list.
use mathlib.Core.Path.{refl, ap}
use native.Mathlib.Omega.{arith}
use Rattle.phonon.specs.Number.{◌⊕◌, fold}
use Rattle.imag_self_energy.proofs.Laws.{turn, at_end}
use Rattle.imag_self_energy.proofs.listed.sum_of.Goals as goal

pub loop-place-init : goal.loop-place-init
unfolding fold
loop-place-init g c = (omega arith, λ h a. refl)

pub loop-place-preserved : goal.loop-place-preserved
loop-place-preserved g c =
    let l = c.loop-place in (
      omega arith,
      λ h a. turn _ _ _ (ap (λ z. l.total ⊕ z) (a l.place-index _ c.loop-place-test.true (rw c.from.ensures at c.term-total.ensures))) (l.invariant.1 h a),
    )

pub returns : goal.returns
returns g c = λ h a. at_end _ _ _ _ (omega arith) (c.loop-place.invariant.1 h a)
