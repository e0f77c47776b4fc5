-- Products of counts: places in rows of n numbers.
use mathlib.Core.Path.{◌≡◌, sym, ap, ◌∙◌}
use Prim.Native.Nat.{ℕ, ◌+◌, ◌*◌, ◌/◌, ◌%◌, ◌<◌, ◌≤◌}
use native.Mathlib.Nat.{suc-mul, mul-le-mul_right}
use native.Mathlib.Numerals.{add-one}
use native.Mathlib.Omega.{arith}
use Rattle.phonon.proofs.Laws.{div_of, mod_of}

-- row i ends within m rows
pub row_le : {i m : ℕ} (n : ℕ) → i < m → i * n + n ≤ m * n
row_le n p = omega (arith, mul-le-mul_right n p)

-- one row more
pub row_next : (i n : ℕ) → i * n + n ≡ (i + 1) * n
row_next i n = sym (ap (λ (m : ℕ). m * n) (add-one i) ∙ suc-mul i n)

-- the row and the place in it, of a number's place
pub row_same : (n i j : ℕ) {a b : ℕ} → a < n → b < n → i * n + a ≡ j * n + b → i ≡ j
row_same n i j p q e = sym (div_of n p i) ∙ ap (λ (x : ℕ). x / n) e ∙ div_of n q j

pub place_same : (n i j : ℕ) {a b : ℕ} → a < n → b < n → i * n + a ≡ j * n + b → a ≡ b
place_same n i j p q e = sym (mod_of n p i) ∙ ap (λ (x : ℕ). x % n) e ∙ mod_of n q j
