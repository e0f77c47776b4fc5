-- A sum of two numbers without sign is above zero exactly if one of them is. Assumes nothing.
use mathlib.Core.Path.{◌≡◌, refl, sym, ap, ◌∙◌}
use mathlib.Core.Bool.{or-true, Bool, true, false, not, ◌||◌, ◌&&◌}
use Prim.Native.Nat.{ℕ, zero, suc, ◌+◌, ◌*◌, ◌<◌, ◌≤◌}
use native.Mathlib.Nat.{lt_irrefl, mul-pos, mul_assoc, add-mul, zero-mul, zero-lt-suc}
use native.Mathlib.Omega.{arith}
use lib.IntN.{ℤ, pos}
use lib.Dec.{T, ltb, eqb, lit<}
use borrow.Author.Tests.{lt-ltb, le-ltb, ne_eqb}
use lib.Ieee.{Float, nan, inf, fin, binary64, is_nan, up, down, fits, round, sum, add, lt, le, eq, of_bits}
use lib.Ieee.Fits.{down_pos, up_pos}
use lib.Ieee.Scale.{round_same}
use Rattle.phonon.specs.Number.{◌⊕◌, f0}
use Rattle.phonon.specs.Tests.{sign_bit}
use Rattle.phonon.proofs.Order.{at_most, level_zero}
use Rattle.floats.specs.Sign.{Unsigned}
use Rattle.floats.proofs.Unsigned.{unsigned_add}
use Rattle.floats.proofs.Least.{le_round, add_least}

-- above zero, of a finite number
above : (m : ℕ) (e : ℤ) → lt f0 (fin false (suc m) e) ≡ true
unfolding lt of_bits
above m e = lt-ltb (0 * 1 * down e) (suc m * up e * 1) (omega (arith, zero-mul (down e), mul-pos (zero-lt-suc m) (up_pos e)))

not_above : (e : ℤ) → lt f0 (fin false 0 e) ≡ false
unfolding lt of_bits
not_above e = le-ltb (0 * 1 * down e) (0 * up e * 1) (omega (arith, zero-mul (down e), zero-mul (up e)))

-- what is not smaller is above zero too
above_le : (m : ℕ) (e : ℤ) (z : Float) → Unsigned z → T (le (fin false (suc m) e) z) → lt f0 z ≡ true
unfolding le lt eq of_bits
above_le m e nan u l = absurd u
above_le m e (inf true) u l = absurd u
above_le m e (inf false) u l = refl
above_le m e (fin true n d) u l = absurd u
above_le m e (fin false zero d) u l =
    let h : suc m * up e * down d ≤ 0 * up d * down e = at_most _ _ true l in
    let p : 0 < suc m * up e * down d = mul-pos (mul-pos (zero-lt-suc m) (up_pos e)) (down_pos d) in
    absurd (lt_irrefl 0 (omega (arith, h, p, zero-mul (up d), zeros (up d) (down e))))
  where
    zeros : (a b : ℕ) → 0 * a * b ≡ 0
    zeros a b = rw (zero-mul a) (zero-mul b)
above_le m e (fin false (suc n) d) u l = above n d

-- a sum of two zeros
zero_sum : (e d : ℤ) → lt f0 (fin false 0 e ⊕ fin false 0 d) ≡ false
unfolding add sum round
zero_sum e d =
    let k : round binary64 false (0 * up e * down d + 0 * up d * down e) (down e * down d) ≡ round binary64 false 0 1 =
    round_same binary64 false (0 * up e * down d + 0 * up d * down e) (down e * down d) 0 1 (mul-pos (down_pos e) (down_pos d)) (lit< tt) (zeros (up e) (down d) (up d) (down e)) in
    rw k (not_above (pos 0))
  where
    zeros : (a b c g : ℕ) → (0 * a * b + 0 * c * g) * 1 ≡ 0 * (g * b)
    zeros a b c g = rw (zero-mul a, zero-mul b, zero-mul c, zero-mul g, zero-mul (g * b)) refl

-- neither of two finite ones is larger
left_least : (m : ℕ) (e : ℤ) (n : ℕ) (d : ℤ) → T (fits binary64 (fin false m e)) → T (le (fin false m e) (fin false m e ⊕ fin false n d))
unfolding is_nan sign_bit
left_least m e n d f = add_least (fin false m e) (fin false n d) f refl refl refl refl

right_least : (m : ℕ) (e : ℤ) (n : ℕ) (d : ℤ) → T (fits binary64 (fin false n d)) → T (le (fin false n d) (fin false m e ⊕ fin false n d))
unfolding add sum
right_least m e n d f = le_round n d (m * up e * down d + n * up d * down e) (down e * down d) f (mul-pos (down_pos e) (down_pos d)) (more (n * up d) (m * up e * down d) (down e) (down d))
  where
    more : (a b u v : ℕ) → a * (u * v) ≤ (b + a * u) * v
    more a b u v =
        let g : a * (u * v) ≡ a * u * v = sym (mul_assoc a u v) in
        let h : (b + a * u) * v ≡ b * v + a * u * v = add-mul b (a * u) v in
        omega arith

both_above : (m : ℕ) (e : ℤ) (n : ℕ) (d : ℤ) → T (fits binary64 (fin false m e)) → T (fits binary64 (fin false n d)) → lt f0 (fin false m e ⊕ fin false n d) ≡ (lt f0 (fin false m e) || lt f0 (fin false n d))
both_above zero e zero d f g = zero_sum e d ∙ sym (rw (not_above e, not_above d) refl)
both_above (suc m) e n d f g = above_le m e (fin false (suc m) e ⊕ fin false n d) (unsigned_add (fin false (suc m) e) (fin false n d) tt tt) (left_least (suc m) e n d f) ∙ sym (rw (above m e) refl)
both_above zero e (suc n) d f g = above_le n d (fin false 0 e ⊕ fin false (suc n) d) (unsigned_add (fin false 0 e) (fin false (suc n) d) tt tt) (right_least 0 e (suc n) d g) ∙ sym (rw (not_above e, above n d) refl)

pub sum_above : (x y : Float) → T (fits binary64 x) → T (fits binary64 y) → Unsigned x → Unsigned y → lt f0 (x ⊕ y) ≡ (lt f0 x || lt f0 y)
unfolding add
sum_above nan y f g p q = absurd p
sum_above (inf true) y f g p q = absurd p
sum_above (inf false) nan f g p q = absurd q
sum_above (inf false) (inf true) f g p q = absurd q
sum_above (inf false) (inf false) f g p q = unfold lt of_bits in refl
sum_above (inf false) (fin t n d) f g p q = unfold lt of_bits in refl
sum_above (fin true m e) y f g p q = absurd p
sum_above (fin false m e) nan f g p q = absurd q
sum_above (fin false m e) (inf true) f g p q = absurd q
sum_above (fin false m e) (inf false) f g p q = unfold lt of_bits in sym (or-true (ltb (0 * 1 * down e) (m * up e * 1)))
sum_above (fin false m e) (fin true n d) f g p q = absurd q
sum_above (fin false m e) (fin false n d) f g p q = both_above m e n d f g

-- a number without sign is zero exactly if it is not above zero
pub zero_is : (x : Float) → Unsigned x → eq x f0 ≡ not (lt f0 x)
unfolding eq lt of_bits
zero_is nan p = absurd p
zero_is (inf true) p = absurd p
zero_is (inf false) p = refl
zero_is (fin true m e) p = absurd p
zero_is (fin false zero e) p = level_zero false false (0 * up e * 1) (0 * 1 * down e) (omega (arith, zero-mul (up e))) (omega (arith, zero-mul (down e))) ∙ sym (ap not (not_above e))
zero_is (fin false (suc m) e) p =
    let l : 0 < suc m * up e = mul-pos (zero-lt-suc m) (up_pos e) in
    let k : eqb (suc m * up e * 1) (0 * 1 * down e) ≡ false = ne_eqb _ _ (λ (z : suc m * up e * 1 ≡ 0 * 1 * down e). lt_irrefl 0 (omega (arith, z, l, zero-mul (down e)))) in
    ap (λ (t : Bool). t && true) k ∙ sym (ap not (above m e))
