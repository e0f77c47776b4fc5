-- The turn of one pair of supercell atoms.
use mathlib.Core.Path.{◌≡◌, sym, ◌∙◌}
use mathlib.Core.Bool.{Bool, true, false, not, and-false}
use mathlib.Core.List.{List}
use Prim.Native.Nat.{ℕ, ◌+◌, ◌*◌}
use lib.ListN.{get_or}
use lib.Ieee.{Float}
use borrow.Author.Tests.{eq-eqb, ne_eqb}
use Rattle.phonon.specs.declared.Complex.{Complex}
use Rattle.phonon.specs.declared.Leg.{Leg}
use Rattle.phonon.specs.Number.{at, flagged}
use Rattle.phonon.specs.Common.{cadd, cmul, scale}
use Rattle.phonon.specs.RealToReciprocal.{passes, factor, entry, term}
use Rattle.real_to_reciprocal.specs.Pair.{pair_step}

module _ (shortest nonzero : List ℕ) (constants : List Float) (g : Leg) (p r : ℕ → Complex) (S i row j k e : ℕ) (t : Complex) where
  abbrev step : Complex
  step = pair_step shortest nonzero constants g p r S i row j k e t

  pub pair_zero : get_or nonzero (entry S row j k) 0 ≡ 0 → t ≡ step
  unfolding pair_step
  pair_zero z = rw (eq-eqb _ _ z, and-false (not (passes g (flagged shortest (entry S i j k)))))

  pub pair_passed : passes g (flagged shortest (entry S i j k)) ≡ true → t ≡ step
  unfolding pair_step
  pair_passed h = rw h

  pub pair_added : {b : Bool} {u v q z : Complex} {x : Float} → (get_or nonzero (entry S row j k) 0 ≡ 0 → ⊥) → b ≡ passes g (flagged shortest (entry S i j k)) → b ≡ false
      → u ≡ p (i * S + j) → v ≡ r (i * S + k) → q ≡ cmul u v → x ≡ factor g (flagged shortest (entry S i j k)) → z ≡ scale q x
      → cadd t (scale z (at constants (entry S row j k * 27 + e))) ≡ step
  unfolding pair_step term
  pair_added h eb nb eu ev eq ex ez =
      let n : passes g (flagged shortest (entry S i j k)) ≡ false = sym eb ∙ nb in
      rw (ne_eqb _ _ h, n, ez, ex, eq, eu, ev)
