-- A finite f64 from its digits and exponent, and from so many units of the smallest. Assumes nothing.
use Rattle.std.proofs.Common.{ℕ, suc, ◌+◌, ◌*◌, ◌%◌, ◌^◌, ◌<◌, ◌≤◌, Bool, false, ◌&&◌, T, eqb, ltb, leb, ℤ, sym, le_of_eq, lt_of_le_of_lt, mul-le-mul_right, arith, lit<, ltb→lt, leb→le, pow_mono, pow-add}
use lib.Ieee.{fin, binary64, up, down, fits, units}
use lib.Ieee.Fits.{and_l, and_r, odd-fits, inf-fits, cond-fits}

-- what it is for a finite number above 0 to be a value of the format
pub record Written (m : ℕ) (e : ℤ) : Type 0 where
  pub digits : m < 2 ^ 53
  pub low : down e ≤ 2 ^ 1074
  pub high : m * up e < 2 ^ 1024 * down e

pub written : (s : Bool) (m : ℕ) (e : ℤ) → T (fits binary64 (fin s (suc m) e)) → Written (suc m) e
unfolding fits
written s m e f =
    let a = eqb (suc m % 2) 1 in
    let b = ltb (suc m) (2 ^ 53) in
    let c = leb (down e) (2 ^ 1074) in
    let d = ltb (suc m * up e) (2 ^ 1024 * down e) in
    record { digits = ltb→lt _ _ (and_r a b (and_l (a && b) c (and_l (a && b && c) d f))); low = leb→le _ _ (and_r (a && b) c (and_l (a && b && c) d f)); high = ltb→lt _ _ (and_r (a && b && c) d f) }

-- ---- so many units of the smallest f64
pub units_fits : (t j : ℕ) → t ≤ 2 ^ 53 → t * 2 ^ j < 2 ^ 2098 → T (fits binary64 (units binary64 false t j))
unfolding units
units_fits t j h b = cond-fits binary64 (ltb (t * 2 ^ j) (2 ^ 2098)) _ _ (odd-fits binary64 54 false t j (lt_of_le_of_lt h (lit< tt)) h b) (inf-fits binary64 false)

pub in_range : (t j : ℕ) → t ≤ 2 ^ 53 → j ≤ 2000 → t * 2 ^ j < 2 ^ 2098
in_range t j h l = lt_of_le_of_lt (mul-le-mul_right (2 ^ j) h) (lt_of_le_of_lt (le_of_eq (sym (pow-add 2 53 j))) (lt_of_le_of_lt (pow_mono {i = 53 + j} {j = 2053} (omega arith)) (lit< tt)))
