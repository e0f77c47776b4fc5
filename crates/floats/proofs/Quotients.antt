-- Quotients by a number that is at least 1: of a number of at most 1 in size they are no larger. Assumes nothing.
use mathlib.Core.Path.{◌≡◌, ap, ◌∙◌, sym, subst}
use mathlib.Core.Bool.{Bool, true, false, ◌&&◌}
use Prim.Native.Nat.{ℕ, zero, suc, ◌*◌, ◌≤◌, ◌<◌}
use native.Mathlib.Nat.{le_trans, le_of_eq, lt_irrefl, mul-pos, one-mul, zero-mul, mul_comm, mul-le-mul}
use native.Mathlib.Omega.{arith}
use lib.IntN.{ℤ, pos}
use lib.Dec.{T, ltb, leb, eqb, leb→le, ltb→lt, lt→ltb, le→leb, lit≤}
use borrow.Author.Tests.{ne_eqb}
use lib.Ieee.{Float, nan, inf, fin, binary64, up, down, unlike, lt, le, eq, round, div, of_bits}
use lib.Ieee.Fits.{down_pos, up_pos, and_l, and_r, and_i}
use Rattle.phonon.specs.Number.{◌⊘◌, f1}
use Rattle.phonon.proofs.Order.{at_most}
use Rattle.floats.specs.Sign.{Unsigned}
use Rattle.floats.proofs.Compare.{pick_no}
use Rattle.floats.proofs.SignedBounds.{Plus, Minus, plus_round, minus_round}

-- a divisor of at least 1
abbrev pub big : Float → Bool
big nan = false
big (inf s) = false
big (fin true n d) = false
big (fin false n d) = ltb 0 n && leb (down d) (n * up d)

pub big_is : (n : ℕ) (d : ℤ) → T (big (fin false n d)) → (0 < n) × (down d ≤ n * up d)
big_is n d k = (ltb→lt 0 n (and_l (ltb 0 n) (leb (down d) (n * up d)) k), leb→le _ _ (and_r (ltb 0 n) (leb (down d) (n * up d)) k))

-- a quotient's magnitude X / c / (n * up d / down d), of an X / c of at most 1 and a divisor of at least 1
pub quotient_bound : (X c n : ℕ) (d : ℤ) → X ≤ 1 * c → down d ≤ n * up d → X * down d ≤ 1 * (n * up d * c)
quotient_bound X c n d h k = le_trans (mul-le-mul h k) (le_of_eq (ap (λ (x : ℕ). x * (n * up d)) (one-mul c) ∙ mul_comm c (n * up d) ∙ sym (one-mul (n * up d * c))))

pub div_is : (s : Bool) (m : ℕ) (e : ℤ) (n : ℕ) (d : ℤ) → 0 < n → div binary64 (fin s m e) (fin false n d) ≡ round binary64 (unlike s false) (m * up e * down d) (n * up d * down e)
unfolding div
div_is s m e n d h = pick_no (eqb n 0) _ _ (ne_eqb n 0 (λ z. lt_irrefl 0 (omega arith)))

pub plus_div : (m : ℕ) (e : ℤ) (y : Float) → m * up e ≤ 1 * down e → T (big y) → Plus 1 (div binary64 (fin false m e) y)
plus_div m e nan h k = absurd k
plus_div m e (inf s) h k = absurd k
plus_div m e (fin true n d) h k = absurd k
plus_div m e (fin false n d) h k =
    let b = big_is n d k in
    subst (Plus 1) (sym (div_is false m e n d b.0)) (plus_round (m * up e * down d) (n * up d * down e) 1 (mul-pos (mul-pos b.0 (up_pos d)) (down_pos e)) (lit≤ tt) (quotient_bound (m * up e) (down e) n d h b.1))

pub minus_div : (m : ℕ) (e : ℤ) (y : Float) → m * up e ≤ 1 * down e → T (big y) → Minus 1 (div binary64 (fin true m e) y)
minus_div m e nan h k = absurd k
minus_div m e (inf s) h k = absurd k
minus_div m e (fin true n d) h k = absurd k
minus_div m e (fin false n d) h k =
    let b = big_is n d k in
    subst (Minus 1) (sym (div_is true m e n d b.0)) (minus_round (m * up e * down d) (n * up d * down e) 1 (mul-pos (mul-pos b.0 (up_pos d)) (down_pos e)) (lit≤ tt) (quotient_bound (m * up e) (down e) n d h b.1))

-- what is at least 1 is above zero
pub some_of : (n : ℕ) (d : ℤ) → down d ≤ n * up d → 0 < n
some_of zero d h = absurd (lt_irrefl 0 (omega (arith, down_pos d, zero-mul (up d))))
some_of (suc n) d h = omega arith

-- a divisor of at least 1, as a test
pub is_big : (n : ℕ) (d : ℤ) → down d ≤ n * up d → T (big (fin false n d))
is_big n d h = and_i (ltb 0 n) (leb (down d) (n * up d)) (lt→ltb 0 n (some_of n d h)) (le→leb (down d) (n * up d) h)

-- it is from +0 to 1
pub inverse_plus : (v : Float) → T (le f1 v) → Unsigned v → Plus 1 (f1 ⊘ v)
unfolding le lt eq of_bits div
inverse_plus nan h p = absurd p
inverse_plus (inf true) h p = absurd p
inverse_plus (inf false) h p = omega arith
inverse_plus (fin true n d) h p = absurd p
inverse_plus (fin false n d) h p = plus_div 1 (pos 0) (fin false n d) (lit≤ tt) (is_big n d (omega (arith, at_most (1 * 1 * down d) (n * up d * 1) true h)))
