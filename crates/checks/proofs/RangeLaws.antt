-- The test of a vector range: by its count, by its start, and of two numbers that are natural. What a range from low to high holds.
use Prim.Native.Nat.{ℕ, zero, suc, ◌+◌}
use mathlib.Core.Path.{◌≡◌, refl, sym, ◌∙◌}
use mathlib.Core.Bool.{Bool, true, false, cond, ◌&&◌}
use native.Mathlib.Omega.{arith}
use lib.IntN.{ℤ, pos, negsuc}
use lib.Dec.{leb, ltb, eqb}
use lib.Signed.{lt_z, le_z}
use borrow.Author.Tests.{ltb-true, ltb-false, eqb-true, eqb-false, le-leb, lt-leb}
use Rattle.phonon.specs.Number.{index}
use Rattle.std.specs.Ordering.{is_le, is_lt, nat_cmp, int_cmp}
use Rattle.std.specs.declared.cmp.Ordering.TheVariants.{Less, Equal, Greater}
use Rattle.phonon.specs.Tests.{vector_range, measured, within}

pub no_count : (v : ℕ) (count start : ℤ) → lt_z count (pos 1) ≡ true → false ≡ vector_range v count start
unfolding vector_range
no_count v (pos zero) (pos s) e = refl
no_count v (pos zero) (negsuc s) e = refl
no_count v (pos (suc n)) start e = absurd (omega (arith, ltb-true (suc n) 1 e))
no_count v (negsuc n) start e = refl

pub no_start : (v : ℕ) (count start : ℤ) → lt_z start (pos 0) ≡ true → false ≡ vector_range v count start
unfolding vector_range
no_start v count (pos s) e = absurd (omega (arith, ltb-true s 0 e))
no_start v (pos n) (negsuc s) e = refl
no_start v (negsuc n) (negsuc s) e = refl

pub naturals : (v : ℕ) (count start : ℤ) → lt_z count (pos 1) ≡ false → lt_z start (pos 0) ≡ false → vector_range v count start ≡ leb (index start + index count) v
unfolding vector_range
naturals v (pos zero) start e f = absurd (omega (arith, ltb-false 0 1 e))
naturals v (pos (suc n)) (pos s) e f = rw (le-leb 1 (suc n) (omega arith)) refl
naturals v (pos (suc n)) (negsuc s) e f = absurd (let z : ◌≡◌ {A = ℕ} 0 1 = cc in omega arith)
naturals v (negsuc n) start e f = absurd (let z : ◌≡◌ {A = ℕ} 0 1 = cc in omega arith)

-- ---- what a range from low to high holds, of the order that compares

nat_le : (a b : ℕ) → is_le (nat_cmp a b) ≡ leb a b
nat_le a b = by (ltb a b) (eqb a b) refl refl
  where
    by : (t u : Bool) → ltb a b ≡ t → eqb a b ≡ u → is_le (cond t Less (cond u Equal Greater)) ≡ leb a b
    by true u p q = sym (le-leb a b (omega (arith, ltb-true a b p)))
    by false true p q = sym (le-leb a b (omega (arith, eqb-true a b q)))
    by false false p q = sym (lt-leb a b (let n = ltb-false a b p in let m : a ≡ b → ⊥ = eqb-false a b q in omega arith))

int_le_by : (a b : ℕ) (t u : Bool) → ltb a b ≡ t → ltb b a ≡ u → is_le (cond t Less (cond u Greater Equal)) ≡ leb a b
int_le_by a b true u p q = sym (le-leb a b (omega (arith, ltb-true a b p)))
int_le_by a b false true p q = sym (lt-leb a b (ltb-true b a q))
int_le_by a b false false p q = sym (le-leb a b (ltb-false b a q))

int_le : (a b : ℤ) → is_le (int_cmp a b) ≡ le_z a b
int_le (pos a) (pos b) = int_le_by a b (ltb a b) (ltb b a) refl refl
int_le (pos a) (negsuc b) = refl
int_le (negsuc a) (pos b) = refl
int_le (negsuc a) (negsuc b) = int_le_by b a (ltb b a) (ltb a b) refl refl

pub held : (n : ℕ) {s e low high : ℕ} {x b : Bool} → s ≡ low → e ≡ high → x ≡ false → b ≡ (is_le (nat_cmp s n) && cond x (is_lt (nat_cmp n e)) (is_le (nat_cmp n e))) → b ≡ measured low high n
held n p q r v = v ∙ rw (r, p, q, nat_le _ n, nat_le n _) refl

pub held_signed : (z : ℤ) {s e low high : ℤ} {x b : Bool} → s ≡ low → e ≡ high → x ≡ false → b ≡ (is_le (int_cmp s z) && cond x (is_lt (int_cmp z e)) (is_le (int_cmp z e))) → b ≡ within low high z
unfolding within
held_signed z p q r v = v ∙ rw (r, p, q, int_le _ z, int_le z _) refl
