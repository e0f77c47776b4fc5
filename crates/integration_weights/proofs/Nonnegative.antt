-- No shape is negative: of a finite width above zero, at every distance that is no NaN, it is no NaN and has no sign. Assumes nothing.
use mathlib.Core.Path.{◌≡◌, refl, ap, ◌∙◌, sym, subst}
use mathlib.Core.Bool.{Bool, true, false, not, cond, true≢false}
use Prim.Native.Nat.{ℕ, zero, suc, ◌+◌, ◌*◌, ◌≤◌}
use native.Mathlib.Nat.{le_trans, le_of_eq, lt_irrefl, mul-pos, mul-one, one-mul, zero-mul, mul_assoc, mul-le-mul, mul-mul-mul_comm, zero-lt-suc}
use native.Mathlib.Decide.{dec_le}
use native.Mathlib.Omega.{arith}
use lib.IntN.{ℤ, pos, negsuc}
use lib.Dec.{T, eqb, ltb→lt, lit<, lit≤}
use borrow.Author.Tests.{ltb-true, ltb-false, ne_eqb}
use lib.Ieee.{Float, nan, inf, fin, up, down, unlike, is_nan, lt, le, neg, round, mul, of_bits}
use lib.Ieee.Fits.{down_pos, up_pos}
use lib.Ieee.Positive.{positive, through}
use Rattle.phonon.specs.Number.{◌⊕◌, ◌⊗◌, ◌⊘◌, f0, f1, f2}
use Rattle.phonon.specs.Tests.{finite, sign_bit}
use Rattle.phonon.specs.Exp.{exp}
use Rattle.floats.specs.Sign.{Unsigned}
use Rattle.floats.proofs.Compare.{pick_no}
use Rattle.floats.proofs.Unsigned.{at_least_zero, unsigned_cond, unsigned_round, unsigned_square, unsigned_add, unsigned_times, unsigned_over, unsigned_quotient}
use Rattle.floats.proofs.Signs.{not_below}
use Rattle.floats.proofs.Numbers.{number_quotient}
use Rattle.floats.proofs.Bounds.{Inside, inside_round}
use Rattle.floats.proofs.SignedBounds.{Plus, plus_round}
use Rattle.floats.proofs.Quotients.{div_is, plus_div, is_big}
use Rattle.floats.proofs.Doubled.{round_double}
use Rattle.funcs.proofs.ExpMost.{inverse_exp_plus, inverse_exp_above}
use Rattle.integration_weights.specs.declared.Shape.{Shape}
use Rattle.integration_weights.specs.declared.Shape.TheVariants.{Gaussian, Lorentzian, Box}
use Rattle.integration_weights.specs.Claims.{NonnegativeShapes}
use Rattle.integration_weights.specs.Shapes.{f8, gaussian_scale, magnitude, bell, gaussian_at, lorentzian_at, box_at, shape_at, width_of}

-- ---- box and Lorentzian

box_unsigned : (m : ℕ) (e : ℤ) (d : Float) → Unsigned (box_at (fin false (suc m) e) d)
unfolding box_at of_bits
box_unsigned m e d = unsigned_cond (le (magnitude d) (fin false (suc m) e)) _ f0 (unsigned_over 0 (pos 0) (f2 ⊗ fin false (suc m) e) (unsigned_times f2 m e tt)) tt

lorentzian_unsigned : (m : ℕ) (e : ℤ) (d : Float) → T (not (is_nan d)) → Unsigned (lorentzian_at (fin false (suc m) e) d)
unfolding lorentzian_at of_bits is_nan
lorentzian_unsigned m e d h =
    let w = fin false (suc m) e in
    unsigned_times (w ⊘ (d ⊗ d ⊕ w ⊗ w)) 5734161139222658 (negsuc 53) (unsigned_over m e (d ⊗ d ⊕ w ⊗ w) (unsigned_add (d ⊗ d) (w ⊗ w) (unsigned_square d h) (unsigned_square w tt)))

-- ---- Gaussian: one over the exponential is from +0 to 1, and above zero where c / w is infinite

-- the exponential's argument
argument : Float → Float
argument t = t ⊗ t ⊘ f2

argument_unsigned : (t : Float) → T (not (is_nan t)) → Unsigned (argument t)
unfolding argument of_bits
argument_unsigned t h = unsigned_quotient (t ⊗ t) 0 (pos 1) (unsigned_square t h)

square_plus : (t : Float) → Inside 16 1 t → Plus 256 (t ⊗ t)
unfolding mul
square_plus nan h = absurd h
square_plus (inf s) h = absurd h
square_plus (fin s a b) h = go s
  where
    h' : a * up b ≤ 16 * down b
    h' = le_trans (le_of_eq (sym (mul-one (a * up b)))) h

    l : a * up b * (a * up b) ≤ 256 * (down b * down b)
    l = le_trans (mul-le-mul h' h') (le_of_eq (mul-mul-mul_comm 16 (down b) 16 (down b)))

    go : (s : Bool) → Plus 256 (fin s a b ⊗ fin s a b)
    go true = plus_round (a * up b * (a * up b)) (down b * down b) 256 (mul-pos (down_pos b) (down_pos b)) (lit≤ tt) l
    go false = plus_round (a * up b * (a * up b)) (down b * down b) 256 (mul-pos (down_pos b) (down_pos b)) (lit≤ tt) l

half_plus : (x : Float) → Plus 256 x → Plus 256 (x ⊘ f2)
unfolding of_bits
half_plus nan h = absurd h
half_plus (inf s) h = absurd h
half_plus (fin true a b) h = absurd h
half_plus (fin false a b) h = subst (Plus 256) (sym (div_is false a b 1 (pos 1) (lit< tt))) (plus_round (a * up b * 1) (1 * 2 * down b) 256 (mul-pos (lit< tt) (down_pos b)) (lit≤ tt) (omega arith))

argument_plus : (t : Float) → Inside 16 1 t → Plus 256 (argument t)
unfolding argument
argument_plus t h = half_plus (t ⊗ t) (square_plus t h)

-- a width of which c / w is infinite is below 1, and 8 * w then finite
narrow : (m : ℕ) (e : ℤ) → gaussian_scale ⊘ fin false (suc m) e ≡ inf false → suc m * up e ≤ down e
unfolding of_bits
narrow m e q = go (dec_le (down e) (suc m * up e))
  where
    go : Dec (down e ≤ suc m * up e) → suc m * up e ≤ down e
    go (yes l) = absurd (subst (Plus 1) q (plus_div 7186705221432913 (negsuc 53) (fin false (suc m) e) (lit≤ tt) (is_big (suc m) e l)))
    go (no f) = omega arith

eight_plus : (m : ℕ) (e : ℤ) → suc m * up e ≤ down e → Plus 8 (f8 ⊗ fin false (suc m) e)
unfolding mul of_bits
eight_plus m e h = plus_round (1 * 8 * (suc m * up e)) (1 * down e) 8 (mul-pos (lit< tt) (down_pos e)) (lit≤ tt) (omega arith)

-- what the test says of a finite distance: its size is at most n * 2 ^ δ
plain : (a : ℕ) (b : ℤ) → sign_bit (fin false a b) ≡ false
unfolding sign_bit
plain a b = refl

size_bound : (s : Bool) (a : ℕ) (b : ℤ) (n : ℕ) (δ : ℤ) → lt (fin false n δ) (magnitude (fin s a b)) ≡ false → a * up b * down δ ≤ n * up δ * down b
unfolding magnitude lt neg of_bits
size_bound false a b n δ h = ltb-false (n * up δ * down b) (a * up b * down δ) (rw (not_below (fin false a b) (plain a b)) at h)
size_bound true a b n δ h = go (lt (fin true a b) f0) refl
  where
    go : (x : Bool) → lt (fin true a b) f0 ≡ x → a * up b * down δ ≤ n * up δ * down b
    go true k = ltb-false (n * up δ * down b) (a * up b * down δ) (rw k at h)
    go false k =
        let z : a * up b ≡ 0 = omega (arith, ltb-false 0 (a * up b * 1 + 0 * 1 * down b) k) in
        le_trans (le_of_eq (ap (λ (x : ℕ). x * down δ) z ∙ zero-mul (down δ))) (omega arith)

-- t is then at most 16 in size
ratio_bound : (s : Bool) (a : ℕ) (b : ℤ) (m : ℕ) (e : ℤ) → a * up b * (1 * down e) ≤ 2 * (1 * 8 * (suc m * up e)) * down b → Inside 16 1 (fin s a b ⊘ fin false (suc m) e)
unfolding round
ratio_bound s a b m e h =
    let M = suc m * up e in
    let p : a * up b * down e * 1 ≡ a * up b * (1 * down e) = mul-one (a * up b * down e) ∙ ap (λ (x : ℕ). a * up b * x) (sym (one-mul (down e))) in
    let q : 2 * (8 * M) * down b ≡ 16 * (M * down b) = ap (λ (x : ℕ). x * down b) (sym (mul_assoc 2 8 M)) ∙ mul_assoc 16 M (down b) in
    subst (Inside 16 1) (sym (div_is s a b (suc m) e (zero-lt-suc m)))
    (inside_round (unlike s false) (a * up b * down e) (M * down b) 16 1 (mul-pos (mul-pos (zero-lt-suc m) (up_pos e)) (down_pos b)) (lit< tt) (refl, refl) (le_trans (le_of_eq p) (le_trans h (le_of_eq q))))

far : (n : ℕ) (δ : ℤ) (s : Bool) → lt (fin false n δ) (magnitude (inf s)) ≡ true
unfolding magnitude lt neg of_bits
far n δ true = refl
far n δ false = refl

near_ratio : (d : Float) (m : ℕ) (e : ℤ) (X : Float) → T (not (is_nan d)) → f8 ⊗ fin false (suc m) e ≡ X → Plus 8 X → lt X (magnitude d) ≡ false → Inside 16 1 (d ⊘ fin false (suc m) e)
unfolding mul of_bits is_nan
near_ratio d m e nan h q p t = absurd p
near_ratio d m e (inf s) h q p t = absurd p
near_ratio d m e (fin true n δ) h q p t = absurd p
near_ratio nan m e (fin false n δ) h q p t = absurd h
near_ratio (inf s) m e (fin false n δ) h q p t = absurd (true≢false (sym (far n δ s) ∙ t))
near_ratio (fin s a b) m e (fin false n δ) h q p t =
    ratio_bound s a b m e
    (through (a * up b) (n * up δ) (2 * (1 * 8 * (suc m * up e))) (down b) (down δ) (1 * down e) (down_pos δ) (size_bound s a b n δ t) (round_double (1 * 8 * (suc m * up e)) (1 * down e) n δ q))

-- one over the exponential, times c / w
product_finite : (A : Float) (n : ℕ) (d : ℤ) → Plus 1 A → Unsigned (A ⊗ fin false n d)
unfolding mul
product_finite nan n d h = absurd h
product_finite (inf s) n d h = absurd h
product_finite (fin true a b) n d h = absurd h
product_finite (fin false a b) n d h = unsigned_round (a * up b * (n * up d)) (down b * down d)

product_infinite : (A : Float) → T (positive A) → Unsigned (A ⊗ inf false)
unfolding mul
product_infinite nan h = absurd h
product_infinite (inf s) h = absurd h
product_infinite (fin true a b) h = absurd h
product_infinite (fin false a b) h =
    subst Unsigned (sym (pick_no (eqb a 0) nan (inf false) (ne_eqb a 0 (λ (z : a ≡ 0). let l = ltb→lt 0 a h in lt_irrefl 0 (omega arith))))) tt

scale_unsigned : (m : ℕ) (e : ℤ) → Unsigned (gaussian_scale ⊘ fin false (suc m) e)
unfolding of_bits
scale_unsigned m e = unsigned_over 7186705221432912 (negsuc 53) (fin false (suc m) e) tt

bell_unsigned : (m : ℕ) (e : ℤ) (d : Float) → T (not (is_nan d)) → lt (f8 ⊗ fin false (suc m) e) (magnitude d) ≡ false → Unsigned (bell (fin false (suc m) e) (d ⊘ fin false (suc m) e))
unfolding bell argument
bell_unsigned m e d h t = by (gaussian_scale ⊘ fin false (suc m) e) refl (scale_unsigned m e)
  where
    by : (C : Float) → gaussian_scale ⊘ fin false (suc m) e ≡ C → Unsigned C → Unsigned (f1 ⊘ exp (argument (d ⊘ fin false (suc m) e)) ⊗ C)
    by nan q u = absurd u
    by (inf true) q u = absurd u
    by (inf false) q u =
        product_infinite (f1 ⊘ exp (argument (d ⊘ fin false (suc m) e)))
        (inverse_exp_above (argument (d ⊘ fin false (suc m) e)) (argument_plus (d ⊘ fin false (suc m) e) (near_ratio d m e (f8 ⊗ fin false (suc m) e) h refl (eight_plus m e (narrow m e q)) t)))
    by (fin true n g) q u = absurd u
    by (fin false n g) q u =
        product_finite (f1 ⊘ exp (argument (d ⊘ fin false (suc m) e))) n g (inverse_exp_plus (argument (d ⊘ fin false (suc m) e)) (argument_unsigned (d ⊘ fin false (suc m) e) (number_quotient d m e h)))

gaussian_unsigned : (m : ℕ) (e : ℤ) (d : Float) → T (not (is_nan d)) → Unsigned (gaussian_at (fin false (suc m) e) d)
unfolding gaussian_at of_bits
gaussian_unsigned m e d h = go (lt (f8 ⊗ fin false (suc m) e) (magnitude d)) refl
  where
    go : (b : Bool) → lt (f8 ⊗ fin false (suc m) e) (magnitude d) ≡ b → Unsigned (cond b f0 (bell (fin false (suc m) e) (d ⊘ fin false (suc m) e)))
    go true t = tt
    go false t = bell_unsigned m e d h t

-- ---- once for the three

-- a finite width above zero
of_width : (Q : Float → Type 0) → ((m : ℕ) (e : ℤ) → Q (fin false (suc m) e)) → (w : Float) → finite w ≡ true → lt f0 w ≡ true → Q w
unfolding finite lt of_bits
of_width Q f nan h l = absurd (true≢false (sym h))
of_width Q f (inf s) h l = absurd (true≢false (sym h))
of_width Q f (fin true m e) h l = absurd (true≢false (sym l))
of_width Q f (fin false zero e) h l = absurd (let k = ltb-true (0 * 1 * down e) (0 * up e * 1) l in lt_irrefl 0 (omega (arith, zero-mul (down e), zero-mul (up e))))
of_width Q f (fin false (suc m) e) h l = f m e

shape_unsigned : (s : Shape) (d : Float) → finite (width_of s) ≡ true → lt f0 (width_of s) ≡ true → T (not (is_nan d)) → Unsigned (shape_at s d)
unfolding shape_at width_of
shape_unsigned (Gaussian w) d h l k = of_width (λ v. Unsigned (gaussian_at v d)) (λ m e. gaussian_unsigned m e d k) w h l
shape_unsigned (Lorentzian w) d h l k = of_width (λ v. Unsigned (lorentzian_at v d)) (λ m e. lorentzian_unsigned m e d k) w h l
shape_unsigned (Box w) d h l k = of_width (λ v. Unsigned (box_at v d)) (λ m e. box_unsigned m e d) w h l

pub nonnegative_shapes : NonnegativeShapes
nonnegative_shapes s d h l k = let u = shape_unsigned s d h l k in record { least = at_least_zero (shape_at s d) u; unsigned = u }
