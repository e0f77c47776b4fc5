-- What is a NaN or without sign bit stays so under sums, products and quotients, and is not less than zero. Assumes nothing.
use Prim.Native.Nat.{ℕ, zero, suc, ◌+◌, ◌*◌, ◌<◌}
use mathlib.Core.Path.{◌≡◌, refl, sym, ◌∙◌, subst}
use mathlib.Core.Bool.{Bool, true, false, not, ◌||◌, beq, cond, true≢false, false≢true}
use native.Mathlib.Omega.{arith}
use native.Mathlib.Nat.{zero-mul}
use native.Mathlib.Decide.{dec_lt}
use lib.Dec.{T, ltb, eqb, ltb→lt, nltb→le}
use lib.Ieee.{Float, nan, inf, fin, binary64, up, down, round, sum, add, mul, div, below, level, lt, le, eq, of_bits}
use borrow.Author.Tests.{lt-ltb}
use Rattle.std.proofs.lemmas.Bool.{or_left, or_right}
use Rattle.phonon.specs.Number.{◌⊕◌, ◌⊗◌, ◌⊘◌, f0, fold}
use Rattle.phonon.specs.Tests.{sign_bit, finite}
use Rattle.phonon.proofs.Order.{is_false, level_zero}
use Rattle.floats.proofs.Unsigned.{sign_of, unsigned_round}

-- ---- rounding keeps the sign

pub sign_cond : (b : Bool) (x y : Float) → sign_bit x ≡ false → sign_bit y ≡ false → sign_bit (cond b x y) ≡ false
sign_cond true x y p q = p
sign_cond false x y p q = q

pub sign_round : (a c : ℕ) → sign_bit (round binary64 false a c) ≡ false
sign_round a c = sign_of (round binary64 false a c) (unsigned_round a c)

-- ---- sums, products, quotients

pub sign_add : (x y : Float) → sign_bit x ≡ false → sign_bit y ≡ false → sign_bit (x ⊕ y) ≡ false
unfolding add sum sign_bit
sign_add nan y p q = refl
sign_add (inf s) nan p q = refl
sign_add (inf s) (inf t) p q = sign_cond (beq s t) (inf s) nan p refl
sign_add (inf s) (fin t n d) p q = p
sign_add (fin s m e) nan p q = refl
sign_add (fin s m e) (inf t) p q = q
sign_add (fin true m e) (fin t n d) p q = absurd (true≢false p)
sign_add (fin false m e) (fin true n d) p q = absurd (true≢false q)
sign_add (fin false m e) (fin false n d) p q = sign_round (m * up e * down d + n * up d * down e) (down e * down d)

pub sign_mul : (x y : Float) → sign_bit x ≡ false → sign_bit y ≡ false → sign_bit (x ⊗ y) ≡ false
unfolding mul sign_bit
sign_mul nan y p q = refl
sign_mul (inf true) y p q = absurd (true≢false p)
sign_mul (inf false) nan p q = refl
sign_mul (inf false) (inf true) p q = absurd (true≢false q)
sign_mul (inf false) (inf false) p q = refl
sign_mul (inf false) (fin true n d) p q = absurd (true≢false q)
sign_mul (inf false) (fin false n d) p q = sign_cond (eqb n 0) nan (inf false) refl refl
sign_mul (fin true m e) y p q = absurd (true≢false p)
sign_mul (fin false m e) nan p q = refl
sign_mul (fin false m e) (inf true) p q = absurd (true≢false q)
sign_mul (fin false m e) (inf false) p q = sign_cond (eqb m 0) nan (inf false) refl refl
sign_mul (fin false m e) (fin true n d) p q = absurd (true≢false q)
sign_mul (fin false m e) (fin false n d) p q = sign_round (m * up e * (n * up d)) (down e * down d)

pub sign_div : (x y : Float) → sign_bit x ≡ false → sign_bit y ≡ false → sign_bit (x ⊘ y) ≡ false
unfolding div sign_bit
sign_div nan y p q = refl
sign_div (inf s) nan p q = refl
sign_div (inf s) (inf t) p q = refl
sign_div (inf true) (fin t n d) p q = absurd (true≢false p)
sign_div (inf false) (fin true n d) p q = absurd (true≢false q)
sign_div (inf false) (fin false n d) p q = refl
sign_div (fin s m e) nan p q = refl
sign_div (fin true m e) (inf t) p q = absurd (true≢false p)
sign_div (fin false m e) (inf true) p q = absurd (true≢false q)
sign_div (fin false m e) (inf false) p q = refl
sign_div (fin true m e) (fin t n d) p q = absurd (true≢false p)
sign_div (fin false m e) (fin true n d) p q = absurd (true≢false q)
sign_div (fin false m e) (fin false n d) p q =
    sign_cond (eqb n 0) (cond (eqb m 0) nan (inf false)) (round binary64 false (m * up e * down d) (n * up d * down e))
    (sign_cond (eqb m 0) nan (inf false) refl refl) (sign_round (m * up e * down d) (n * up d * down e))

-- a square has no sign
pub sign_square : (x : Float) → sign_bit (x ⊗ x) ≡ false
unfolding mul sign_bit
sign_square nan = refl
sign_square (inf true) = refl
sign_square (inf false) = refl
sign_square (fin true m e) = sign_round (m * up e * (m * up e)) (down e * down e)
sign_square (fin false m e) = sign_round (m * up e * (m * up e)) (down e * down e)

-- a sum of any length, or another fold, from 0.0 on
pub sign_fold : (n : ℕ) (f : ℕ → Float → Float) → ((i : ℕ) (x : Float) → sign_bit x ≡ false → sign_bit (f i x) ≡ false) → sign_bit (fold n f0 f) ≡ false
unfolding fold
sign_fold zero f h = unfold sign_bit of_bits in refl
sign_fold (suc n) f h = h n (fold n f0 f) (sign_fold n f h)

-- ---- the order

-- what is without sign is not less than zero
pub not_below : (x : Float) → sign_bit x ≡ false → lt x f0 ≡ false
unfolding lt sign_bit of_bits
not_below nan p = refl
not_below (inf true) p = absurd (true≢false p)
not_below (inf false) p = refl
not_below (fin true m e) p = absurd (true≢false p)
not_below (fin false m e) p = is_false (ltb (m * up e * 1) (0 * 1 * down e)) (λ h. none (m * up e * 1) (down e) (ltb→lt (m * up e * 1) (0 * 1 * down e) h))
  where
    none : (x y : ℕ) → x < 0 * 1 * y → ⊥
    none x y h = omega arith

-- what is above zero has no sign
pub sign_positive : (x : Float) → lt f0 x ≡ true → sign_bit x ≡ false
unfolding lt sign_bit of_bits
sign_positive nan p = refl
sign_positive (inf true) p = absurd (true≢false (sym p))
sign_positive (inf false) p = refl
sign_positive (fin true m e) p = absurd (true≢false (sym p))
sign_positive (fin false m e) p = refl

-- a negative number, or a zero, is at or below one that is not less than zero
at_or_below : (t : Bool) (a b : ℕ) → (T t → b ≡ 0) → (below true a t b || level true a t b) ≡ true
at_or_below false a b z = go (dec_lt 0 (a + b))
  where
    go : Dec (0 < a + b) → (below true a false b || level true a false b) ≡ true
    go (yes h) = or_left (ltb 0 (a + b)) (level true a false b) (lt-ltb 0 (a + b) h)
    go (no h) = or_right (ltb 0 (a + b)) (level true a false b) (level_zero true false a b (omega arith) (omega arith))
at_or_below true a b z = go (dec_lt 0 a) (z tt)
  where
    go : Dec (0 < a) → b ≡ 0 → (below true a true b || level true a true b) ≡ true
    go (yes h) e = or_left (ltb b a) (level true a true b) (lt-ltb b a (omega arith))
    go (no h) e = or_right (ltb b a) (level true a true b) (level_zero true true a b (omega arith) e)

-- above a finite number that is not less than zero, or a NaN
pub sign_above : (c f : Float) → finite c ≡ true → lt c f0 ≡ false → le f c ≡ false → sign_bit f ≡ false
unfolding lt le eq finite sign_bit of_bits
sign_above nan f p q h = absurd (false≢true p)
sign_above (inf s) f p q h = absurd (false≢true p)
sign_above (fin s m e) nan p q h = refl
sign_above (fin s m e) (inf true) p q h = absurd (true≢false h)
sign_above (fin s m e) (inf false) p q h = refl
sign_above (fin s m e) (fin false n d) p q h = refl
sign_above (fin s m e) (fin true n d) p q h =
    absurd (true≢false (sym (at_or_below s (n * up d * down e) (m * up e * down d) (zero s q)) ∙ h))
  where
    none : (a b : ℕ) → T (not (ltb 0 (a * 1 + 0 * 1 * b))) → a ≡ 0
    none a b t = let l = nltb→le 0 (a * 1 + 0 * 1 * b) t in omega arith

    zero : (s : Bool) → lt (fin s m e) f0 ≡ false → T s → m * up e * down d ≡ 0
    zero true q t = rw (none (m * up e) (down e) (subst (λ b. T (not b)) (sym q) tt)) (zero-mul (down d))
    zero false q t = absurd t
