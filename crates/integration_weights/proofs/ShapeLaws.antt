-- The shapes by their cases, and a slot by the values of its shape.
use mathlib.Core.Path.{◌≡◌, refl, ◌∙◌}
use mathlib.Core.Bool.{Bool, true, false, cond}
use mathlib.Core.List.{List, [], ◌∷◌}
use Prim.Native.Nat.{ℕ}
use lib.Ieee.{Float, lt, le}
use Rattle.phonon.specs.Number.{◌⊕◌, ◌⊖◌, ◌⊗◌, ◌⊘◌, f0, f1, f2, at}
use Rattle.phonon.specs.Exp.{exp}
use Rattle.integration_weights.specs.declared.Shape.{Shape}
use Rattle.integration_weights.specs.declared.Shape.TheVariants.{Gaussian}
use Rattle.integration_weights.specs.Shapes.{f8, gaussian_scale, magnitude, bell, gaussian_at, box_at, shape_at}
use Rattle.integration_weights.specs.Weights.{flag_of, weights_from, slot_weights}

-- ---- the box

module _ (w d : Float) {m : Float} (p : m ≡ magnitude d) where
  pub inside : le m w ≡ true → f1 ⊘ (f2 ⊗ w) ≡ box_at w d
  unfolding box_at
  inside h = let k : le (magnitude d) w ≡ true = rw p at h in rw k refl

  pub outside : le m w ≡ false → f0 ≡ box_at w d
  unfolding box_at
  outside h = let k : le (magnitude d) w ≡ false = rw p at h in rw k refl

-- ---- the Gaussian, where it is cut and where it is not

module _ (w d : Float) {b : Bool} (p : b ≡ lt (f8 ⊗ w) (magnitude d)) where
  pub far : b ≡ true → f0 ≡ shape_at (Gaussian w) d
  unfolding shape_at gaussian_at
  far h = let k : lt (f8 ⊗ w) (magnitude d) ≡ true = rw p at h in rw k refl

  pub near : {e : Float} → b ≡ false → e ≡ exp (d ⊘ w ⊗ (d ⊘ w) ⊘ f2) → f1 ⊘ e ⊗ (gaussian_scale ⊘ w) ≡ shape_at (Gaussian w) d
  unfolding shape_at gaussian_at bell
  near h q = let k : lt (f8 ⊗ w) (magnitude d) ≡ false = rw p at h in rw (k, q) refl

  -- either, from the exponential of its argument, which is 0.0 where it is cut
  pub either : {e v : Float} (x : Float) → x ≡ cond b f0 (d ⊘ w ⊗ (d ⊘ w) ⊘ f2) → e ≡ exp x → v ≡ cond b f0 (f1 ⊘ e ⊗ (gaussian_scale ⊘ w)) → v ≡ shape_at (Gaussian w) d
  either {e} {v} x h q r = by b refl
    where
      by : (t : Bool) → b ≡ t → v ≡ shape_at (Gaussian w) d
      by true z = (rw z at r) ∙ far z
      by false z = (rw z at r) ∙ near z (rw (rw z at h) at q)

-- ---- two values side by side

pub pair : {a b c d : Float} → a ≡ c → b ≡ d → a ∷ b ∷ [] ≡ c ∷ d ∷ []
pair p q = rw (p, q) refl

pub pair_at : {l : List Float} {a b : Float} → l ≡ a ∷ b ∷ [] → (at l 0 ≡ a) × (at l 1 ≡ b)
pair_at e = rw e (refl, refl)

-- ---- a slot

-- u and v are the difference and the sum of x and y
module _ (s : Shape) (x y z : Float) {a b c : Float} (p : a ≡ shape_at s (x ⊖ y ⊖ z)) (q : b ≡ shape_at s (x ⊕ y ⊖ z)) (r : c ≡ shape_at s (x ⊖ y ⊕ z)) where
  pub first_is : a ≡ (slot_weights s x y z).first
  unfolding slot_weights weights_from
  first_is = p

  pub second_is : b ⊖ c ≡ (slot_weights s x y z).second
  unfolding slot_weights weights_from
  second_is = rw (q, r) refl

  pub flag_is : {g : ℕ} → g ≡ flag_of a b c → g ≡ (slot_weights s x y z).flag
  unfolding slot_weights weights_from
  flag_is h = rw (p, q, r) at h
