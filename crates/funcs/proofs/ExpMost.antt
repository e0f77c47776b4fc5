-- The exponential of a number from 0 to 256 is finite, so that one over it is above zero. Assumes nothing.
use mathlib.Core.Path.{◌≡◌, refl, ap, ◌∙◌, sym, subst}
use mathlib.Core.Bool.{Bool, true, false, true≢false}
use Prim.Native.Nat.{ℕ, zero, suc, ◌+◌, ◌-◌, ◌*◌, ◌/◌, ◌^◌, ◌≤◌, ◌<◌, min}
use native.Mathlib.Nat.{le_trans, le_of_eq, lt_irrefl, mul-pos, mul-one, one-mul, zero-mul, mul_comm, mul_right_comm, mul-le-mul, mul-le-mul_right, min-le_left, div-lt_iff_lt-mul}
use native.Mathlib.Omega.{arith}
use lib.Pow.{pow_pos, pow_mono}
use lib.IntN.{ℤ, pos}
use lib.Dec.{T, lt→ltb, lit<, lit≤}
use borrow.Author.Tests.{le-ltb}
use lib.Ieee.{Float, nan, inf, fin, binary64, up, down, lt, le, eq, round, mul, div, of_bits, to_unsigned}
use lib.Ieee.Fits.{down_pos}
use lib.Ieee.Positive.{positive}
use Rattle.phonon.specs.Number.{◌⊗◌, ◌⊘◌, f0, f1, whole}
use Rattle.phonon.specs.Exp.{exp_series, count, remainder, scaled, by_range, exp}
use Rattle.phonon.proofs.Order.{at_most}
use Rattle.floats.specs.Sign.{Unsigned}
use Rattle.floats.specs.Size.{Within}
use Rattle.floats.proofs.Compare.{nonneg}
use Rattle.floats.proofs.Unsigned.{unsigned_least}
use Rattle.floats.proofs.Bounds.{Inside, inside_positive, within_mul}
use Rattle.floats.proofs.SignedBounds.{Plus, AtLeast, least_round}
use Rattle.floats.proofs.Quotients.{div_is, some_of, inverse_plus}
use Rattle.funcs.proofs.Range.{limit, log2e}
use Rattle.funcs.proofs.SeriesBounds.{series_most}
use Rattle.funcs.proofs.Remainder.{remainder_bounds}
use Rattle.funcs.proofs.ExpLeast.{exp_least, exp_least_of}

-- ---- k is at most 512

whole_most : (K : ℕ) (y : Float) → Within K y → to_unsigned 64 y ≤ K
unfolding to_unsigned
whole_most K nan h = absurd h
whole_most K (inf s) h = absurd h
whole_most K (fin true m e) h = omega arith
whole_most K (fin false m e) h =
    let p : 0 < down e = down_pos e in
    let q : suc K * down e ≡ K * down e + down e = omega arith in
    let l : m * up e / down e < suc K = (div-lt_iff_lt-mul p).1 (omega arith) in
    let i : min (m * up e / down e) (2 ^ 64 - 1) ≤ m * up e / down e = min-le_left _ _ in
    omega arith

count_most : (m : ℕ) (e : ℤ) → m * up e ≤ 256 * down e → count (fin false m e) ≤ 512
unfolding of_bits
count_most m e h = whole_most 512 (fin false m e ⊗ log2e) (within_mul 256 2 (fin false m e) log2e (lit≤ tt) h (lit≤ tt))

-- ---- the exponential is at most 19 * 2 ^ 512

times_power : (p : Float) (k : ℕ) → Plus 19 p → k ≤ 512 → Inside (19 * 2 ^ 512) 1 (mul binary64 p (fin false 1 (pos k)))
unfolding mul round
times_power nan k h b = absurd h
times_power (inf s) k h b = absurd h
times_power (fin true m e) k h b = absurd h
times_power (fin false m e) k h b =
    let l : m * up e * 2 ^ k ≤ 19 * down e * 2 ^ 512 = mul-le-mul h (pow_mono {i = k} {j = 512} b) in
    let a : m * up e * (1 * 2 ^ k) * 1 ≡ m * up e * 2 ^ k = mul-one (m * up e * (1 * 2 ^ k)) ∙ ap (λ (x : ℕ). m * up e * x) (one-mul (2 ^ k)) in
    let c : 19 * down e * 2 ^ 512 ≡ 19 * 2 ^ 512 * (down e * 1) = mul_right_comm 19 (down e) (2 ^ 512) ∙ ap (λ (x : ℕ). 19 * 2 ^ 512 * x) (sym (mul-one (down e))) in
    inside_positive (m * up e * (1 * 2 ^ k)) (down e * 1) (19 * 2 ^ 512) 1 (mul-pos (down_pos e) (lit< tt)) (lit< tt) (refl, refl) (le_trans (le_of_eq a) (le_trans l (le_of_eq c)))

most_in : (m : ℕ) (e : ℤ) (a b : Bool) → m * up e ≤ 256 * down e → lt limit (fin false m e) ≡ a → le f0 (fin false m e) ≡ b → a ≡ false → b ≡ true → Inside (19 * 2 ^ 512) 1 (by_range a b (fin false m e))
unfolding by_range scaled
most_in m e true b k h l s t = absurd (true≢false s)
most_in m e false true k h l s t =
    let x = fin false m e in
    times_power (exp_series (remainder x (whole (count x)))) (count x) (series_most (remainder x (whole (count x))) (remainder_bounds m e h l).0) (count_most m e k)
most_in m e false false k h l s t = absurd (true≢false (sym t))

pub exp_most : (m : ℕ) (e : ℤ) → m * up e ≤ 256 * down e → Inside (19 * 2 ^ 512) 1 (exp (fin false m e))
unfolding exp lt of_bits
exp_most m e h = most_in m e _ _ h refl refl (le-ltb (709 * 1 * down e) (m * up e * 1) (omega arith)) (nonneg m e)

-- ---- one over it is above zero

above_zero : (v : Float) (L : ℕ) → Plus 1 v → AtLeast 1 L v → T (positive v)
above_zero nan L h k = absurd h
above_zero (inf s) L h k = absurd h
above_zero (fin true m e) L h k = absurd h
above_zero (fin false zero e) L h k = absurd (lt_irrefl 0 (omega (arith, down_pos e, zero-mul (up e), zero-mul L, ap (λ (x : ℕ). x * L) (zero-mul (up e)))))
above_zero (fin false (suc m) e) L h k = lt→ltb 0 (suc m) (omega arith)

-- one over a number of at least 1 that is at most 19 * 2 ^ 512
inverse_above : (v : Float) → T (le f1 v) → Unsigned v → Inside (19 * 2 ^ 512) 1 v → T (positive (f1 ⊘ v))
unfolding le lt eq of_bits div round
inverse_above nan h p i = absurd p
inverse_above (inf s) h p i = absurd i
inverse_above (fin true n d) h p i = absurd p
inverse_above (fin false n d) h p i =
    let l : down d ≤ n * up d = omega (arith, at_most (1 * 1 * down d) (n * up d * 1) true h) in
    let z : 0 < n * up d * 1 = omega (arith, down_pos d) in
    let most : 19 * 2 ^ 512 ≤ 2 ^ 517 = lit≤ tt in
    let b : 1 * (n * up d * 1) ≤ 1 * 1 * down d * 2 ^ 517 =
    le_trans (le_of_eq (one-mul (n * up d * 1))) (le_trans i (le_trans (mul-le-mul_right (down d) most) (le_of_eq (mul_comm (2 ^ 517) (down d) ∙ ap (λ (x : ℕ). x * 2 ^ 517) (sym (one-mul (down d))))))) in
    above_zero (f1 ⊘ fin false n d) (2 ^ 517) (inverse_plus (fin false n d) h p)
    (subst (AtLeast 1 (2 ^ 517)) (sym (div_is false 1 (pos 0) n d (some_of n d l))) (least_round (1 * 1 * down d) (n * up d * 1) 1 (2 ^ 517) z (pow_pos 517) (refl, refl) b))

-- ---- one over the exponential

pub inverse_exp_plus : (y : Float) → Unsigned y → Plus 1 (f1 ⊘ exp y)
inverse_exp_plus y p = inverse_plus (exp y) (exp_least_of y p) (unsigned_least (exp y) (exp_least_of y p))

pub inverse_exp_above : (y : Float) → Plus 256 y → T (positive (f1 ⊘ exp y))
inverse_exp_above nan h = absurd h
inverse_exp_above (inf s) h = absurd h
inverse_exp_above (fin true m e) h = absurd h
inverse_exp_above (fin false m e) h = inverse_above (exp (fin false m e)) (exp_least m e) (unsigned_least (exp (fin false m e)) (exp_least m e)) (exp_most m e h)
