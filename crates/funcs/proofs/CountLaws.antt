-- The exponential's k, the whole part of x over ln 2, is the floor of that quotient; and it stands in the last 52 bits of k + 2 ^ 52. Assumes nothing.
use mathlib.Core.Path.{◌≡◌, ap, ◌∙◌, sym, subst}
use mathlib.Core.Bool.{true, false, not, true≢false}
use Prim.Native.Nat.{ℕ, ◌+◌, ◌-◌, ◌*◌, ◌/◌, ◌%◌, ◌^◌, ◌≤◌, ◌<◌, min}
use native.Mathlib.Nat.{mul-one, one-mul, mul-pos, add-mul, min-eq_left, min-eq_right, div-lt_iff_lt-mul}
use native.Mathlib.Decide.{dec_le}
use native.Mathlib.Omega.{arith}
use lib.IntN.{pos, negsuc, neg_ℤ}
use lib.Dec.{T, lit<}
use lib.Ieee.{Float, nan, inf, fin, binary64, up, down, is_nan, lt, le, eq, round, sum, add, mul, of_bits, of_int, to_bits, to_unsigned}
use lib.Ieee.Exact.{HasValue}
use lib.Ieee.Back.{round_whole}
use lib.Ieee.Fits.{down_pos}
use lib.Ieee.Scale.{round_same}
use Rattle.common.proofs.Patterns.{to_bits_value, rescaled, no_nan_of}
use Rattle.phonon.specs.Number.{◌⊕◌, bits, f0, whole}
use Rattle.phonon.specs.Exp.{count}
use Rattle.phonon.specs.Trig.{floor}
use Rattle.phonon.proofs.Order.{at_most}
use Rattle.floats.specs.Size.{Within}
use Rattle.floats.proofs.Compare.{negative_zero}
use Rattle.funcs.proofs.Range.{limit, log2e, scaled_range, exp_whole}

-- ---- the quotient is at most 1023

within_limit : (y : Float) → T (le (fin false 0 (pos 0)) y) → T (le y (fin false 8997266565677285 (negsuc 42))) → Within 1048577 y
unfolding le lt eq
within_limit nan lo hi = absurd lo
within_limit (inf true) lo hi = absurd lo
within_limit (inf false) lo hi = absurd hi
within_limit (fin true m e) lo hi = let z : m * up e ≡ 0 = negative_zero m e lo in omega arith
within_limit (fin false m e) lo hi = omega (arith, at_most (m * up e * 2 ^ 43) (8997266565677285 * 1 * down e) true hi)

pub quotient_within : (x : Float) → lt limit x ≡ false → le f0 x ≡ true → Within 1048577 (mul binary64 x log2e)
unfolding mul of_bits
quotient_within x h l = let r = scaled_range x h l in within_limit (mul binary64 x log2e) r.0 r.1

-- ---- its floor

floor_is : (y : Float) → T (le (fin false 0 (pos 0)) y) → to_unsigned 64 y < 1023 → floor y ≡ pos (to_unsigned 64 y)
unfolding le lt eq floor to_unsigned
floor_is nan lo s = absurd lo
floor_is (inf true) lo s = absurd lo
floor_is (inf false) lo s = absurd (omega arith)
floor_is (fin true m e) lo s =
    let z : m * up e ≡ 0 = negative_zero m e lo in
    let l : (m * up e + down e - 1) / down e < 1 = (div-lt_iff_lt-mul (down_pos e)).1 (omega (arith, z, down_pos e)) in
    let k : (m * up e + down e - 1) / down e ≡ 0 = omega arith in
    ap (λ (x : ℕ). neg_ℤ (pos x)) k
floor_is (fin false m e) lo s = go (dec_le (m * up e / down e) 18446744073709551615)
  where
    go : Dec (m * up e / down e ≤ 18446744073709551615) → pos (m * up e / down e) ≡ pos (min (m * up e / down e) 18446744073709551615)
    go (yes l) = ap pos (sym (min-eq_left l))
    go (no f) = absurd (let e : min (m * up e / down e) 18446744073709551615 ≡ 18446744073709551615 = min-eq_right (omega arith) in omega (arith, s, e))

pub floor_count : (x : Float) → lt limit x ≡ false → le f0 x ≡ true → floor (mul binary64 x log2e) ≡ pos (count x)
floor_count x h l = floor_is (mul binary64 x log2e) (scaled_range x h l).0 (exp_whole x h l)

-- ---- k + 2 ^ 52

abbrev pub two52 : Float
two52 = bits 0x4330_0000_0000_0000

sum_whole : (w : Float) (k : ℕ) → HasValue w false k 1 → k ≤ 1023 → HasValue (w ⊕ two52) false (2 ^ 52 + k) 1
unfolding add sum of_bits
sum_whole nan k v h = absurd v
sum_whole (inf s) k v h = absurd v
sum_whole (fin true n d) k v h = absurd (true≢false v.0)
sum_whole (fin false n d) k v h =
    let e : n * up d ≡ k * down d = sym (mul-one (n * up d)) ∙ v.1 in
    subst (λ (t : Float). HasValue t false (2 ^ 52 + k) 1)
    (sym (round_same binary64 false (n * up d * 1 + 1 * 2 ^ 52 * down d) (down d * 1) (2 ^ 52 + k) 1 (mul-pos (down_pos d) (lit< tt)) (lit< tt) (omega (arith, e, add-mul (2 ^ 52) k (down d)))))
    (round_whole binary64 false (2 ^ 52 + k) (omega arith))

-- what the code reads off it
pub record Counted (k : ℕ) (t : Float) : Type 0 where
  pub number : T (not (is_nan t))
  pub digits : to_bits binary64 t % 4503599627370496 ≡ k

pub counted : (k : ℕ) → k ≤ 1023 → Counted k (whole k ⊕ two52)
unfolding of_int
counted k h =
    let t = round binary64 false k 1 ⊕ two52 in
    let v = sum_whole (round binary64 false k 1) k (round_whole binary64 false k (omega arith)) h in
    let w : HasValue t false ((2 ^ 52 + k) * 2 ^ 1074) (2 ^ 1074) = subst (λ (c : ℕ). HasValue t false ((2 ^ 52 + k) * 2 ^ 1074) c) (one-mul (2 ^ 1074)) (rescaled t false (2 ^ 52 + k) 1 (2 ^ 1074) v) in
    let d : to_bits binary64 t ≡ 1074 * 2 ^ 52 + (2 ^ 52 + k) = to_bits_value t (2 ^ 52 + k) 1074 w (omega arith) (omega arith) in
    record { number = no_nan_of t false (2 ^ 52 + k) 1 v; digits = omega (arith, d) }
