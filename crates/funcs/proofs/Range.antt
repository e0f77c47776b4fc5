-- The whole part of x * log2 e, for x from 0 to 709, is at most 1022. Assumes nothing.
use mathlib.Core.Path.{◌≡◌, sym, subst}
use mathlib.Core.Bool.{Bool, true, false, true≢false}
use Prim.Native.Nat.{ℕ, zero, suc, ◌*◌, ◌≤◌, ◌<◌}
use native.Mathlib.Nat.{le_of_eq, lt_of_lt_of_le, lt_of_le_of_lt, lt_irrefl, mul-pos, mul_right_comm, mul-lt-mul_of_pos_right, lt_of_mul-lt-mul_right, div-lt_iff_lt-mul, zero-lt-suc, min-le_left}
use native.Mathlib.Omega.{arith}
use lib.IntN.{ℤ, pos, negsuc}
use lib.Dec.{T, lt→ltb, lit<}
use borrow.Author.Tests.{ltb-false}
use lib.Ieee.{Float, nan, inf, fin, binary64, up, down, lt, le, eq, round, mul, of_bits, to_unsigned}
use lib.Ieee.Fits.{down_pos, up_pos}
use lib.Ieee.Order.{round_mono}
use lib.Ieee.Scale.{round_same}
use lib.Ieee.Positive.{mul_mono, cross→le, positive}
use Rattle.phonon.specs.Number.{f0}
use Rattle.phonon.proofs.Order.{at_most}
use Rattle.floats.proofs.Compare.{negative_zero}

-- x = m * 2 ^ e is at most n * 2 ^ d, which is below B: so x is below B
below_bound : (m : ℕ) (e : ℤ) (n : ℕ) (d : ℤ) (B : ℕ) → n * up d < B * down d → m * up e * down d ≤ n * up d * down e → m * up e < B * down e
below_bound m e n d B h l =
    lt_of_mul-lt-mul_right (down d)
    (lt_of_le_of_lt l (lt_of_lt_of_le (mul-lt-mul_of_pos_right h (down_pos e)) (le_of_eq (mul_right_comm B (down d) (down e)))))

-- the whole part of a y from 0 to n * 2 ^ d
whole_part : (y : Float) (n : ℕ) (d : ℤ) (B : ℕ) → n * up d < B * down d → 0 < B → T (le (fin false 0 (pos 0)) y) → T (le y (fin false n d)) → to_unsigned 64 y < B
unfolding lt le eq to_unsigned
whole_part nan n d B h b lo hi = absurd lo
whole_part (inf true) n d B h b lo hi = absurd lo
whole_part (inf false) n d B h b lo hi = absurd hi
whole_part (fin true m e) n d B h b lo hi = b
whole_part (fin false m e) n d B h b lo hi =
    let s : m * up e < B * down e = below_bound m e n d B h (at_most _ _ true hi) in
    lt_of_le_of_lt (min-le_left _ _) ((div-lt_iff_lt-mul (down_pos e)).1 s)

-- ---- x between 0 and 709, times log2 e
abbrev pub limit : Float
limit = of_bits binary64 0x4086_2800_0000_0000

abbrev pub log2e : Float
log2e = of_bits binary64 0x3FF7_1547_652B_82FE

-- the product, in the model's form
zero_product : (s : Bool) (e : ℤ) → mul binary64 (fin s 0 e) log2e ≡ fin s 0 (pos 0)
unfolding mul of_bits round
zero_product true e = round_same binary64 true _ _ 0 1 (mul-pos (down_pos e) (lit< tt)) (lit< tt) (omega arith)
zero_product false e = round_same binary64 false _ _ 0 1 (mul-pos (down_pos e) (lit< tt)) (lit< tt) (omega arith)

pub scaled_range : (x : Float) → lt limit x ≡ false → le f0 x ≡ true → T (le (fin false 0 (pos 0)) (mul binary64 x log2e)) × T (le (mul binary64 x log2e) (mul binary64 limit log2e))
unfolding mul of_bits lt le eq round
scaled_range nan h l = absurd (true≢false (sym l))
scaled_range (inf true) h l = absurd (true≢false (sym l))
scaled_range (inf false) h l = absurd (true≢false h)
scaled_range (fin true zero e) h l = subst (λ (y : Float). T (le (fin false 0 (pos 0)) y) × T (le y (mul binary64 limit log2e))) (sym (zero_product true e)) (tt, tt)
scaled_range (fin false zero e) h l = subst (λ (y : Float). T (le (fin false 0 (pos 0)) y) × T (le y (mul binary64 limit log2e))) (sym (zero_product false e)) (tt, tt)
scaled_range (fin true (suc m) e) h l =
    let z : suc m * up e ≡ 0 = negative_zero (suc m) e (subst T (sym l) tt) in
    let p : 0 < suc m * up e = mul-pos (zero-lt-suc m) (up_pos e) in
    absurd (lt_irrefl 0 (omega arith))
scaled_range (fin false (suc m) e) h l =
    let px : T (positive (fin false (suc m) e)) = lt→ltb 0 (suc m) (zero-lt-suc m) in
    (round_mono binary64 0 1 _ _ (lit< tt) (mul-pos (down_pos e) (lit< tt)) (omega arith), mul_mono binary64 (fin false (suc m) e) limit log2e log2e px tt tt tt (cross→le (fin false (suc m) e) limit px tt (ltb-false _ _ h)) tt)

-- the whole part is at most 1022
pub exp_whole : (x : Float) → lt limit x ≡ false → le f0 x ≡ true → to_unsigned 64 (mul binary64 x log2e) < 1023
unfolding mul of_bits
exp_whole x h l = let r = scaled_range x h l in whole_part (mul binary64 x log2e) 8997266565677285 (negsuc 42) 1023 (lit< tt) (lit< tt) r.0 r.1

-- a finite x from +0 to 709, as a fraction
pub limited : (m : ℕ) (e : ℤ) → lt limit (fin false m e) ≡ false → m * up e ≤ 709 * down e
unfolding lt of_bits
limited m e h = omega (arith, ltb-false (709 * 1 * down e) (m * up e * 1) h)
