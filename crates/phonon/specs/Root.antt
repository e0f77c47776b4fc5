-- Document 01's root: the f64 nearest the exact root, ties to even, as IEEE 754 has it.
use Rattle.std.specs.Prelude.{true, false, cond, leb, Float}
use Prim.Native.Nat.{ℕ, zero, suc, ◌+◌, ◌-◌, ◌*◌, ◌/◌, ◌^◌, compare}
use Rattle.std.specs.Float.{nan, inf, fin, binary64}
use Rattle.std.specs.Float.Ieee.{up, down, size, nearest, units}

-- r, or the next number, if its square is at most n
abbrev pub next : ℕ → ℕ → ℕ
next r n = cond (leb ((r + 1) * (r + 1)) n) (r + 1) r

-- the largest number whose square is at most n, for an n below 4 ^ k: each turn adds a binary digit
unfoldable pub isqrt : ℕ → ℕ → ℕ
isqrt zero n = 0
isqrt (suc k) n = next (2 * isqrt k (n / 4)) n

-- the whole number nearest to the root of n / 2 ^ (2 * j), ties to even: n is compared with the square of s + 1/2
unfoldable pub nearest_root : ℕ → ℕ → ℕ
unfolding isqrt
nearest_root n j =
    let s = isqrt 53 (n / 2 ^ (2 * j)) in
    nearest s (compare (4 * n) ((2 * s + 1) * (2 * s + 1) * 2 ^ (2 * j)))

-- The root of n * 2 ^ -2148, in units of the smallest f64, 2 ^ -1074, is the root of n. It keeps its 53 leading digits and drops j.
unfoldable pub root_of : ℕ → Float
unfolding nearest_root size
root_of n = let j = (size n + 1) / 2 - 53 in units binary64 false (nearest_root n j) j

-- the root of a zero is that zero, of a negative number a NaN; m * 2 ^ e is m * up e / down e
unfoldable pub root : Float → Float
unfolding root_of
root nan = nan
root (inf true) = nan
root (inf false) = inf false
root (fin s zero e) = fin s zero e
root (fin true (suc m) e) = nan
root (fin false (suc m) e) = root_of (suc m * up e * 2 ^ 2148 / down e)
