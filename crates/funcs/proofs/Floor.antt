-- The definition's floor is the greatest whole number not above: of a finite value, `floor y` is at most y, and the next whole number is not. Assumes nothing.
use mathlib.Core.Path.{◌≡◌, refl, subst}
use mathlib.Core.Bool.{Bool, true, false}
use Prim.Native.Nat.{ℕ, zero, suc, ◌+◌, ◌-◌, ◌*◌, ◌/◌, ◌≤◌, ◌<◌}
use native.Mathlib.Nat.{lt_irrefl, one-mul, add-mul, div-lt_iff_lt-mul, div-mul-le_self, suc-mul}
use native.Mathlib.Omega.{arith}
use lib.IntN.{ℤ, pos, negsuc, neg_ℤ, suc_ℤ}
use lib.Ieee.{fin, up, down}
use lib.Ieee.Fits.{down_pos}
use Rattle.phonon.specs.Trig.{floor, quadrant}
use Rattle.funcs.specs.Floor.{AtMost}

upper : (X D q : ℕ) → 0 < D → (X + D - 1) / D ≡ q → X ≤ q * D
upper X D q p h =
    let a : X + D - 1 < (q + 1) * D = (div-lt_iff_lt-mul p).0 (omega arith) in
    omega (arith, add-mul q 1 D, one-mul D)

under_next : (X D q : ℕ) → 0 < D → (X + D - 1) / D ≡ suc q → q * D < X
under_next X D q p h =
    let a : suc q * D ≤ X + D - 1 = subst (λ (n : ℕ). n * D ≤ X + D - 1) h (div-mul-le_self (X + D - 1) D) in
    omega (arith, suc-mul q D)

floor_negative : (m : ℕ) (e : ℤ) (q : ℕ) → (m * up e + down e - 1) / down e ≡ q → AtMost (neg_ℤ (pos q)) (fin true m e) × (AtMost (suc_ℤ (neg_ℤ (pos q))) (fin true m e) → ⊥)
floor_negative m e zero h = (omega (arith, upper (m * up e) (down e) 0 (down_pos e) h), λ z. lt_irrefl 0 (omega (arith, z, down_pos e, one-mul (down e))))
floor_negative m e (suc zero) h = (upper (m * up e) (down e) 1 (down_pos e) h, λ z. lt_irrefl 0 (omega (arith, z, under_next (m * up e) (down e) 0 (down_pos e) h)))
floor_negative m e (suc (suc q)) h = (upper (m * up e) (down e) (suc (suc q)) (down_pos e) h, λ z. lt_irrefl 0 (omega (arith, z, under_next (m * up e) (down e) (suc q) (down_pos e) h)))

pub floor_greatest : (s : Bool) (m : ℕ) (e : ℤ) → AtMost (floor (fin s m e)) (fin s m e) × (AtMost (suc_ℤ (floor (fin s m e))) (fin s m e) → ⊥)
unfolding floor
floor_greatest false m e =
    (div-mul-le_self (m * up e) (down e), λ z. lt_irrefl 0 (omega (arith, z, suc-mul (m * up e / down e) (down e), add-mul (m * up e / down e) 1 (down e), one-mul (down e), (div-lt_iff_lt-mul {k = down e} {x = m * up e} {y = m * up e / down e + 1} (down_pos e)).0 (omega arith))))
floor_greatest true m e = floor_negative m e _ refl

pub quadrant_small : (z : ℤ) → quadrant z < 4
quadrant_small (pos n) = omega arith
quadrant_small (negsuc n) = omega arith
