-- A power of two and its bit pattern. Assumes nothing.
use mathlib.Core.Path.{◌≡◌, refl, ap, ◌∙◌, sym, subst}
use mathlib.Core.Bool.{Bool, false, not}
use Prim.Native.Nat.{ℕ, ◌+◌, ◌*◌, ◌^◌, ◌≤◌}
use native.Mathlib.Nat.{le_trans, lt_of_le_of_lt, le_of_eq, one-mul, mul-one}
use native.Mathlib.Omega.{arith}
use lib.IntN.{ℤ, pos}
use lib.Dec.{T, lt→ltb, lit<, lit≤}
use lib.Pow.{pow_mono, pow-add}
use lib.Ieee.{fin, binary64, fits, of_bits, nan_bits, is_nan}
use lib.Ieee.Bits.{nan_bits_is}
use Rattle.common.proofs.Patterns.{of_bits_value}

pub finite_pattern : (b : ℕ) (s : Bool) (m : ℕ) (e : ℤ) → of_bits binary64 b ≡ fin s m e → T (not (nan_bits binary64 b))
unfolding is_nan
finite_pattern b s m e h = subst (λ (t : Bool). T (not t)) (sym (nan_bits_is binary64 b ∙ ap is_nan h)) tt

-- 2 ^ k, written as the format's value and by its pattern
pub power_fits : (k : ℕ) → k ≤ 1023 → T (fits binary64 (fin false 1 (pos k)))
unfolding fits
power_fits k h = lt→ltb (1 * 2 ^ k) (2 ^ 1024 * 1) (lt_of_le_of_lt (le_trans (le_of_eq (one-mul (2 ^ k))) (pow_mono h)) (lit< tt))

pub power_pattern : (k : ℕ) → k ≤ 1023 → of_bits binary64 ((k + 1023) * 0x10_0000_0000_0000) ≡ fin false 1 (pos k)
power_pattern k h =
    ap (of_bits binary64) (omega arith)
    ∙ of_bits_value (fin false 1 (pos k)) (2 ^ 52) (k + 1022) (power_fits k h)
    (refl, ap (λ (x : ℕ). x * 2 ^ 1074) (one-mul (2 ^ k)) ∙ sym (pow-add 2 k 1074) ∙ ap (λ (x : ℕ). 2 ^ x) (omega arith) ∙ pow-add 2 52 (k + 1022) ∙ sym (mul-one (2 ^ 52 * 2 ^ (k + 1022)))) (lit≤ tt) (lit≤ tt)
