-- The bit pattern of a value q * 2 ^ k in units of the smallest, where q has all 53 digits. Assumes nothing.
use Rattle.std.proofs.Common.{◌≡◌, ℕ, suc, ◌+◌, ◌-◌, ◌*◌, ◌/◌, ◌^◌, ◌<◌, ◌≤◌, Bool, true, false, not, T, sym, ap, ◌∙◌, subst, true≢false, le_trans, lt_of_lt_of_le, lt_irrefl, lt_of_not-le, mul-le-mul_right, mul_assoc, suc-add, mul-lt-mul_of_pos_right, pow-suc, mul_right_comm, mul-div_cancel, arith, pow_pos, pow_mono, pow-add}
use native.Mathlib.Decide.{dec_lt}
use lib.Pow.{shl-shr}
use lib.Ieee.{is_nan, Float, nan, inf, fin, binary64, fits, size, to_bits, of_bits, up, down}
use lib.Ieee.Digits.{size-lt, size-le}
use lib.Ieee.Exact.{HasValue}
use lib.Ieee.Fits.{down_pos}
use lib.Ieee.Bits.{of_bits-to_bits}
use denote.Floats.{passes}

pub reaches : (n j : ℕ) → 2 ^ j ≤ n → j < size n
reaches n j h = lt_of_not-le (λ (f : size n ≤ j). lt_irrefl n (lt_of_lt_of_le (size-lt n) (le_trans (pow_mono {i = size n} {j = j} f) h)))

pub size_is : (n j : ℕ) → 2 ^ j ≤ n → n < 2 ^ suc j → size n ≡ suc j
size_is n j lo hi = omega (arith, reaches n j lo, size-le n (suc j) hi)

-- the number of digits of q * 2 ^ k
pub size_shl : (q k j : ℕ) → 2 ^ j ≤ q → q < 2 ^ suc j → size (q * 2 ^ k) ≡ suc (j + k)
size_shl q k j lo hi =
    size_is (q * 2 ^ k) (j + k)
    (subst (λ (x : ℕ). x ≤ q * 2 ^ k) (sym (pow-add 2 j k)) (mul-le-mul_right (2 ^ k) lo))
    (subst (λ (x : ℕ). q * 2 ^ k < x) (sym (pow-add 2 (suc j) k) ∙ ap (λ (x : ℕ). 2 ^ x) (suc-add j k)) (mul-lt-mul_of_pos_right hi (pow_pos k)))

-- the pattern's number from the magnitude n in units, with d digits dropped
abbrev packed : ℕ → ℕ → ℕ
packed n d = 0 + d * 2 ^ 52 + n / 2 ^ d

packed_is : (q k : ℕ) → 2 ^ 52 ≤ q → q ≤ 2 ^ 53 → packed (q * 2 ^ k) (size (q * 2 ^ k) - 53) ≡ k * 2 ^ 52 + q
packed_is q k lo hi = go (dec_lt q (2 ^ 53))
  where
    go : Dec (q < 2 ^ 53) → packed (q * 2 ^ k) (size (q * 2 ^ k) - 53) ≡ k * 2 ^ 52 + q
    go (yes l) =
        let d : size (q * 2 ^ k) - 53 ≡ k = omega (arith, size_shl q k 52 lo l) in
        ap (packed (q * 2 ^ k)) d ∙ (let e : q * 2 ^ k / 2 ^ k ≡ q = shl-shr q k in omega arith)
    go (no f) =
        let d : size (q * 2 ^ k) - 53 ≡ suc k = omega (arith, size_shl q k 53 (omega arith) (omega arith)) in
        let two : 2 ^ suc k ≡ 2 ^ k * 2 = pow-suc 2 k in
        let full : q ≡ 2 ^ 53 = omega arith in
        let n : q * 2 ^ k ≡ 2 ^ 52 * 2 ^ suc k = ap (λ (x : ℕ). x * 2 ^ k) full ∙ omega arith in
        ap (packed (q * 2 ^ k)) d ∙ (let e : q * 2 ^ k / 2 ^ suc k ≡ 2 ^ 52 = ap (λ (x : ℕ). x / 2 ^ suc k) n ∙ shl-shr (2 ^ 52) (suc k) in omega arith)

pub to_bits_value : (v : Float) (q k : ℕ) → HasValue v false (q * 2 ^ k) (2 ^ 1074) → 2 ^ 52 ≤ q → q ≤ 2 ^ 53 → to_bits binary64 v ≡ k * 2 ^ 52 + q
unfolding to_bits
to_bits_value nan q k h lo hi = absurd h
to_bits_value (inf s) q k h lo hi = absurd h
to_bits_value (fin true m e) q k h lo hi = absurd (true≢false h.0)
to_bits_value (fin false m e) q k h lo hi =
    let n : m * up e * 2 ^ 1074 / down e ≡ q * 2 ^ k = ap (λ (x : ℕ). x / down e) h.1 ∙ mul-div_cancel (q * 2 ^ k) (down_pos e) in
    ap (λ (x : ℕ). packed x (size x - 53)) n ∙ packed_is q k lo hi

-- so the pattern stands for that value
pub of_bits_value : (v : Float) (q k : ℕ) → T (fits binary64 v) → HasValue v false (q * 2 ^ k) (2 ^ 1074) → 2 ^ 52 ≤ q → q ≤ 2 ^ 53 → of_bits binary64 (k * 2 ^ 52 + q) ≡ v
of_bits_value v q k f h lo hi = ap (of_bits binary64) (sym (to_bits_value v q k h lo hi)) ∙ of_bits-to_bits binary64 v f

-- ---- what has a value
pub no_nan_of : (v : Float) (s : Bool) (a c : ℕ) → HasValue v s a c → T (not (is_nan v))
unfolding is_nan
no_nan_of nan s a c h = absurd h
no_nan_of (inf t) s a c h = absurd h
no_nan_of (fin t m e) s a c h = tt

pub rescaled : (v : Float) (s : Bool) (a c k : ℕ) → HasValue v s a c → HasValue v s (a * k) (c * k)
rescaled nan s a c k h = h
rescaled (inf t) s a c k h = h
rescaled (fin t m e) s a c k h = (h.0, sym (mul_assoc (m * up e) c k) ∙ ap (λ (x : ℕ). x * k) h.1 ∙ mul_right_comm a (down e) k)

-- ---- a pattern read back is the number
pub bits_told : (x : Float) → fits binary64 x ≡ true → of_bits binary64 (to_bits binary64 x) ≡ x
bits_told x f = of_bits-to_bits binary64 x (passes _ f)
