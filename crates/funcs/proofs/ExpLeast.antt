-- The exponential of a finite number that is not negative is at least 1. Assumes nothing.
use mathlib.Core.Path.{◌≡◌, refl, sym}
use mathlib.Core.Bool.{Bool, true, false, true≢false}
use Prim.Native.Nat.{ℕ, zero, suc, ◌*◌, ◌^◌, ◌≤◌}
use native.Mathlib.Nat.{mul-pos, mul-le-mul_left}
use native.Mathlib.Omega.{arith}
use lib.Pow.{pow_pos}
use lib.IntN.{ℤ, pos}
use lib.Dec.{T, lit<, lit≤}
use lib.Ieee.{Float, nan, inf, fin, binary64, up, down, lt, le, eq, round, mul, of_bits}
use lib.Ieee.Fits.{down_pos}
use lib.Ieee.Order.{round_mono}
use Rattle.phonon.specs.Number.{f0, f1, whole}
use Rattle.phonon.specs.Exp.{exp_series, count, remainder, scaled, by_range, exp}
use Rattle.floats.specs.Sign.{Unsigned}
use Rattle.floats.proofs.Compare.{nonneg}
use Rattle.floats.proofs.Bounds.{Inside}
use Rattle.floats.proofs.SignedBounds.{Plus, AtLeast, Lower}
use Rattle.funcs.proofs.Range.{limit}
use Rattle.funcs.proofs.SeriesBounds.{series_most, series_least, series_half}
use Rattle.funcs.proofs.Remainder.{remainder_bounds, unsigned_zero}

-- p * 2 ^ k, for a p of at least 1 / L and L of at most 2 ^ k
times_power : (p : Float) (B L k : ℕ) → Plus B p → AtLeast 1 L p → L ≤ 1 * 2 ^ k → T (le f1 (mul binary64 p (fin false 1 (pos k))))
unfolding mul round of_bits
times_power nan B L k h g b = absurd h
times_power (inf s) B L k h g b = absurd h
times_power (fin true m e) B L k h g b = absurd h
times_power (fin false m e) B L k h g b =
    let l = mul-le-mul_left (m * up e) b in
    round_mono binary64 1 1 (m * up e * (1 * 2 ^ k)) (down e * 1) (lit< tt) (mul-pos (down_pos e) (lit< tt)) (omega arith)

-- the two cases: k is 0, and k is above 0
by_zero : (r : Float) → Inside 1 1 r → Unsigned r → T (le f1 (mul binary64 (exp_series r) (fin false 1 (pos 0))))
by_zero nan i p = absurd p
by_zero (inf s) i p = absurd i
by_zero (fin true m e) i p = absurd p
by_zero (fin false m e) i p = times_power (exp_series (fin false m e)) 19 1 0 (series_most (fin false m e) i) (series_least m e i) (lit≤ tt)

by_more : (r : Float) (k : ℕ) → Inside 1 1 r → Lower 1 2 r → T (le f1 (mul binary64 (exp_series r) (fin false 1 (pos (suc k)))))
by_more nan k i p = absurd p
by_more (inf s) k i p = absurd i
by_more (fin true m e) k i p = times_power (exp_series (fin true m e)) 19 2 (suc k) (series_most (fin true m e) i) (series_half m e p) (omega (arith, pow_pos k))
by_more (fin false m e) k i p = times_power (exp_series (fin false m e)) 19 1 (suc k) (series_most (fin false m e) i) (series_least m e i) (omega (arith, pow_pos (suc k)))

by_count : (m : ℕ) (e : ℤ) (k : ℕ) → Inside 1 1 (remainder (fin false m e) (whole k)) × Lower 1 2 (remainder (fin false m e) (whole k))
    → T (le f1 (mul binary64 (exp_series (remainder (fin false m e) (whole k))) (fin false 1 (pos k))))
by_count m e zero b = by_zero (remainder (fin false m e) (whole 0)) b.0 (unsigned_zero m e)
by_count m e (suc j) b = by_more (remainder (fin false m e) (whole (suc j))) j b.0 b.1

least_in : (m : ℕ) (e : ℤ) (a b : Bool) → lt limit (fin false m e) ≡ a → le f0 (fin false m e) ≡ b → b ≡ true → T (le f1 (by_range a b (fin false m e)))
unfolding by_range scaled le lt eq of_bits
least_in m e true b h l t = tt
least_in m e false true h l t = by_count m e (count (fin false m e)) (remainder_bounds m e h l)
least_in m e false false h l t = absurd (true≢false (sym t))

-- the exponential of a finite x that is not negative is at least 1
pub exp_least : (m : ℕ) (e : ℤ) → T (le f1 (exp (fin false m e)))
unfolding exp
exp_least m e = least_in m e _ _ refl refl (nonneg m e)

exp_inf : T (le f1 (exp (inf false)))
unfolding exp by_range le lt eq of_bits
exp_inf = tt

-- and so of any x without sign that is no NaN
pub exp_least_of : (x : Float) → Unsigned x → T (le f1 (exp x))
exp_least_of nan p = absurd p
exp_least_of (inf true) p = absurd p
exp_least_of (inf false) p = exp_inf
exp_least_of (fin true m e) p = absurd p
exp_least_of (fin false m e) p = exp_least m e
