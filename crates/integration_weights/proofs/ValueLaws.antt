-- What a shape's values are, and that their sum tells whether all are zero.
use Prim.Native.Nat.{ℕ}
use mathlib.Core.Path.{◌≡◌, refl, sym, ap, ◌∙◌, subst}
use mathlib.Core.Bool.{Bool, true, false, not, cond, ◌&&◌, ◌||◌}
use mathlib.Core.List.{List}
use lib.Dec.{T}
use lib.Ieee.{Float, binary64, fits, is_nan, lt, le, of_bits}
use lib.Ieee.Fits.{add-fits, mul-fits, div-fits, cond-fits}
use Rattle.phonon.specs.Number.{◌⊕◌, ◌⊖◌, ◌⊗◌, ◌⊘◌, f0, f1, f2, at}
use Rattle.phonon.specs.Tests.{finite}
use Rattle.floats.proofs.Unsigned.{unsigned_add}
use Rattle.floats.proofs.Numbers.{number_finite, number_add, number_sub}
use Rattle.floats.proofs.Sums.{sum_above, zero_is}
use Rattle.integration_weights.specs.declared.Shape.{Shape}
use Rattle.integration_weights.specs.declared.Shape.TheVariants.{Gaussian, Lorentzian, Box}
use Rattle.integration_weights.specs.Shapes.{f8, gaussian_scale, inverse_pi, magnitude, bell, gaussian_at, lorentzian_at, box_at, shape_at}
use Rattle.integration_weights.specs.Weights.{flag_of}
use Rattle.integration_weights.specs.Rows.{Good, Value}
use Rattle.integration_weights.proofs.Nonnegative.{nonnegative_shapes}
use Rattle.integration_weights.proofs.SlotLaws.{Values}

-- ---- a value

zero_held : T (fits binary64 f0)
unfolding fits of_bits
zero_held = tt

held : (s : Shape) (d : Float) → T (fits binary64 (shape_at s d))
unfolding shape_at gaussian_at lorentzian_at box_at bell
held (Gaussian w) d = cond-fits binary64 (lt (f8 ⊗ w) (magnitude d)) f0 _ zero_held (mul-fits binary64 _ (gaussian_scale ⊘ w))
held (Lorentzian w) d = mul-fits binary64 (w ⊘ (d ⊗ d ⊕ w ⊗ w)) inverse_pi
held (Box w) d = cond-fits binary64 (le (magnitude d) w) _ f0 (div-fits binary64 f1 (f2 ⊗ w)) zero_held

value_of : (s : Shape) (d : Float) {p : Float} → Good s → T (not (is_nan d)) → p ≡ shape_at s d → Value p
value_of s d g n e = subst Value (sym e) (record { unsigned = (nonnegative_shapes s d g.width g.above n).unsigned; held = held s d })

-- the three of a slot
pub values_good : (s : Shape) (x y : Float) (leg : List Float) (k : ℕ) {p q r : Float} → Good s → finite x ≡ true → finite y ≡ true → finite (at leg k) ≡ true → Values s x y leg k p q r → Value p × Value q × Value r
values_good s x y leg k g fx fy fz v =
    let z = at leg k in
    let u = number_sub x y (number_finite x fx) fy in
    let w = number_add x y (number_finite x fx) fy in
    (value_of s _ g (number_sub (x ⊖ y) z u fz) v.one, value_of s _ g (number_sub (x ⊕ y) z w fz) v.two, value_of s _ g (number_add (x ⊖ y) z u fz) v.three)

-- ---- the flag

by_tests : (p q r : Bool) → ◌≡◌ {A = ℕ} (cond ((p || q) || r) 0 1) (cond (not p && not q && not r) 1 0)
by_tests true q r = refl
by_tests false true r = refl
by_tests false false true = refl
by_tests false false false = refl

module _ (a b c : Float) (p : Value a) (q : Value b) (r : Value c) where
  sum_is : lt f0 (a ⊕ b ⊕ c) ≡ ((lt f0 a || lt f0 b) || lt f0 c)
  sum_is =
      sum_above (a ⊕ b) c (add-fits binary64 a b) r.held (unsigned_add a b p.unsigned q.unsigned) r.unsigned
      ∙ ap (λ (t : Bool). t || lt f0 c) (sum_above a b p.held q.held p.unsigned q.unsigned)

  flag_by_sum : ◌≡◌ {A = ℕ} (cond (lt f0 (a ⊕ b ⊕ c)) 0 1) (flag_of a b c)
  unfolding flag_of
  flag_by_sum = rw (sum_is, zero_is a p.unsigned, zero_is b q.unsigned, zero_is c r.unsigned) (by_tests (lt f0 a) (lt f0 b) (lt f0 c))

  pub flag_none : lt f0 (a ⊕ b ⊕ c) ≡ true → 0 ≡ flag_of a b c
  flag_none h = sym (ap (λ (t : Bool). cond {A = ℕ} t 0 1) h) ∙ flag_by_sum

  pub flag_set : lt f0 (a ⊕ b ⊕ c) ≡ false → 1 ≡ flag_of a b c
  flag_set h = sym (ap (λ (t : Bool). cond {A = ℕ} t 0 1) h) ∙ flag_by_sum
