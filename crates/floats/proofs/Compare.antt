-- What a comparison of two f64 says of their magnitudes, each m * 2 ^ e a fraction m * up e / down e. Assumes nothing.
use mathlib.Core.Path.{◌≡◌, ap, ◌∙◌}
use mathlib.Core.Bool.{Bool, true, false, ◌||◌, ◌&&◌, beq}
use Prim.Native.Nat.{ℕ, ◌*◌, ◌≤◌, ◌<◌}
use native.Mathlib.Decide.{dec_lt}
use native.Mathlib.Omega.{arith}
use lib.IntN.{ℤ, pos}
use lib.Dec.{T, ltb, eqb, eqb→eq}
use borrow.Author.Tests.{le-ltb, lt-ltb, eq-eqb}
use lib.Ieee.{fin, up, down, lt, le, eq, of_bits}
use lib.Ieee.Fits.{and_l}
use Rattle.phonon.specs.Number.{f0}
-- the second of two, where a test fails
pub use Rattle.std.proofs.lemmas.Bool.{cond-false as pick_no}

le_holds : (a b : ℕ) → a ≤ b → (ltb a b || (eqb a b && true)) ≡ true
le_holds a b h = go (dec_lt a b)
  where
    go : Dec (a < b) → (ltb a b || (eqb a b && true)) ≡ true
    go (yes l) = ap (λ (t : Bool). t || (eqb a b && true)) (lt-ltb a b l)
    go (no f) = ap (λ (t : Bool). t || (eqb a b && true)) (le-ltb a b (omega arith)) ∙ ap (λ (t : Bool). t && true) (eq-eqb a b (omega arith))

-- no f64 without sign is below zero
pub nonneg : (m : ℕ) (e : ℤ) → le f0 (fin false m e) ≡ true
unfolding le lt eq of_bits
nonneg m e = le_holds (0 * 1 * down e) (m * up e * 1) (omega arith)

-- a negative f64 that is not below zero is zero
pub negative_zero : (m : ℕ) (e : ℤ) → T (le (fin false 0 (pos 0)) (fin true m e)) → m * up e ≡ 0
unfolding le lt eq
negative_zero m e l =
    let z : 0 * up (pos 0) * down e ≡ m * up e * down (pos 0) = eqb→eq _ _ (and_l (eqb (0 * up (pos 0) * down e) (m * up e * down (pos 0))) (beq false true || eqb (0 * up (pos 0) * down e) 0) l) in
    omega arith
