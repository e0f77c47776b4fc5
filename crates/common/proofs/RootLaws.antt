-- What the definition of the root says: its digits are the whole number nearest to a root. Assumes nothing.
use Rattle.std.proofs.Common.{◌≡◌, ℕ, zero, suc, ◌+◌, ◌*◌, ◌/◌, ◌^◌, ◌<◌, ◌≤◌, Bool, true, false, cond, not, T, eqb, leb, sym, refl, ◌∙◌, subst, le_of_eq, lt_of_lt_of_le, lt_of_le_of_lt, lt_irrefl, lt_of_not-le, mul-le-mul_right, mul_assoc, add-mul, lt_of_mul-lt-mul_right, mul-le-mul_left, pow-suc, mul-add, le_of_mul-le-mul_right, add-one, arith, eqb→eq, leb→le, pow_pos, leb-false, leb-true}
use Prim.Native.Nat.{compare, Ordering}
use native.Mathlib.Nat.{mul-mul-mul_comm}
use native.Mathlib.Decide.{dec_lt}
use lib.Dec.{nleb→lt, eqb_refl, is_le, compare_is_eq}
use lib.Arith.{lt_of_le-ne}
use lib.Pow.{shl-shr}
use lib.Ieee.{nearest}
use Rattle.phonon.specs.Root.{isqrt, next, nearest_root}
use Rattle.common.specs.Rounded.{Rounded}

pub sq_suc : (a : ℕ) → (a + 1) * (a + 1) ≡ a * a + 2 * a + 1
sq_suc a = mul-add (a + 1) a 1 ∙ omega (arith, add-mul a 1 a)

pub sq_dbl : (a : ℕ) → (2 * a) * (2 * a) ≡ 4 * (a * a)
sq_dbl a = mul-mul-mul_comm 2 a 2 a

-- ---- the whole part of a root
abbrev pub IsRoot : ℕ → ℕ → Type 0
IsRoot n s = (s * s ≤ n) × (n < (s + 1) * (s + 1))

next_root : (n r : ℕ) → IsRoot (n / 4) r → IsRoot n (next (2 * r) n)
next_root n r h = go (leb ((2 * r + 1) * (2 * r + 1)) n) refl
  where
    go : (b : Bool) → leb ((2 * r + 1) * (2 * r + 1)) n ≡ b → IsRoot n (cond b (2 * r + 1) (2 * r))
    go true e = (leb-true _ _ e, omega (arith, h.1, sq_suc r, sq_dbl r, sq_suc (2 * r), sq_suc (2 * r + 1)))
    go false e = (omega (arith, h.0, sq_dbl r), leb-false _ _ e)

pub isqrt_root : (k n : ℕ) → n < 4 ^ k → IsRoot n (isqrt k n)
unfolding isqrt
isqrt_root zero n h = (omega arith, omega arith)
isqrt_root (suc k) n h = next_root n (isqrt k (n / 4)) (isqrt_root k (n / 4) (omega (arith, pow-suc 4 k)))

-- ---- the nearest whole number
-- there is only one
apart : (M t u : ℕ) → Rounded M t → Rounded M u → t < u → ⊥
apart M t u a b h =
    let p : (t + 1) * u ≤ u * u = mul-le-mul_right u (omega arith) in
    let q : t * (t + 1) ≤ t * u = mul-le-mul_left t (omega arith) in
    let x : (t + 1) * u ≡ t * u + u = omega (arith, add-mul t 1 u) in
    let y : t * (t + 1) ≡ t * t + t = omega (arith, mul-add t t 1) in
    omega arith

pub rounded_unique : (M t u : ℕ) → Rounded M t → Rounded M u → t ≡ u
rounded_unique M t u a b = go (dec_lt t u) (dec_lt u t)
  where
    go : Dec (t < u) → Dec (u < t) → t ≡ u
    go (yes h) d = absurd (apart M t u a b h)
    go (no f) (yes h) = absurd (apart M u t b a h)
    go (no f) (no g) = omega arith

abbrev pub Cmp : Ordering → ℕ → ℕ → Type 0
Cmp Ordering.lt a b = a < b
Cmp Ordering.eq a b = a ≡ b
Cmp Ordering.gt a b = b < a

pub cmp : (a b : ℕ) → Cmp (compare a b) a b
cmp a b = go (compare a b) (leb→le a b) (nleb→lt a b) (eqb→eq a b) (λ (e : a ≡ b). subst (λ (x : ℕ). T (eqb a x)) e (eqb_refl a))
  where
    go : (o : Ordering) → (T (is_le o) → a ≤ b) → (T (not (is_le o)) → b < a) → (T (compare_is_eq o) → a ≡ b) → (a ≡ b → T (compare_is_eq o)) → Cmp o a b
    go Ordering.lt h k e n = lt_of_le-ne (h tt) n
    go Ordering.eq h k e n = e tt
    go Ordering.gt h k e n = k tt

not_less : (M s : ℕ) → 0 < M → IsRoot M s → 4 * M ≤ (2 * s + 1) * (2 * s + 1) → Rounded M s
not_less M zero p h l = record { above = omega arith; below = omega arith }
not_less M (suc s) p h l =
    let a = sq_suc (2 * suc s) in
    let b = sq_dbl (suc s) in
    record { above = omega arith; below = omega arith }

above_half : (M s : ℕ) → IsRoot M s → (2 * s + 1) * (2 * s + 1) < 4 * M → Rounded M (suc s)
above_half M s h l =
    let a = sq_suc (2 * s) in
    let b = sq_dbl s in
    let c = sq_suc s in
    subst (Rounded M) (add-one s) (record { above = omega arith; below = omega arith })

pub by_compare : (M s P : ℕ) (o : Ordering) → 0 < P → 0 < M → IsRoot M s → Cmp o (4 * (M * P)) ((2 * s + 1) * (2 * s + 1) * P) → Rounded M (nearest s o)
by_compare M s P Ordering.lt pos p h c =
    let l : 4 * M < (2 * s + 1) * (2 * s + 1) = lt_of_mul-lt-mul_right P (lt_of_le_of_lt (le_of_eq (mul_assoc 4 M P)) c) in
    not_less M s p h (omega arith)
by_compare M s P Ordering.eq pos p h c =
    let l : 4 * M ≤ (2 * s + 1) * (2 * s + 1) = le_of_mul-le-mul_right (le_of_eq (mul_assoc 4 M P ∙ c)) pos in
    let g : (2 * s + 1) * (2 * s + 1) ≤ 4 * M = le_of_mul-le-mul_right (le_of_eq (sym (mul_assoc 4 M P ∙ c))) pos in
    let a = sq_suc (2 * s) in
    let b = sq_dbl s in
    absurd (lt_irrefl 0 (omega arith))
by_compare M s P Ordering.gt pos p h c =
    let l : (2 * s + 1) * (2 * s + 1) < 4 * M = lt_of_mul-lt-mul_right P (lt_of_lt_of_le c (le_of_eq (sym (mul_assoc 4 M P)))) in
    above_half M s h l

pub nearest_rounded : (M j : ℕ) → 0 < M → M < 2 ^ 106 → Rounded M (nearest_root (M * 2 ^ (2 * j)) j)
unfolding nearest_root
nearest_rounded M j p h =
    subst (λ (n : ℕ). Rounded M (nearest (isqrt 53 n) (compare (4 * (M * 2 ^ (2 * j))) ((2 * isqrt 53 n + 1) * (2 * isqrt 53 n + 1) * 2 ^ (2 * j))))) (sym (shl-shr M (2 * j)))
    (by_compare M (isqrt 53 M) (2 ^ (2 * j)) (compare (4 * (M * 2 ^ (2 * j))) ((2 * isqrt 53 M + 1) * (2 * isqrt 53 M + 1) * 2 ^ (2 * j))) (pow_pos (2 * j)) p (isqrt_root 53 M h) (cmp _ _))

-- ---- a root of 105 or 106 digits has 53 digits
pub digits_low : (M t : ℕ) → 2 ^ 104 ≤ M → Rounded M t → 2 ^ 52 ≤ t
digits_low M t h r =
    let l : 2 ^ 52 < t + 1 =
    lt_of_not-le (λ (f : t + 1 ≤ 2 ^ 52).
    let p : t * (t + 1) ≤ t * 2 ^ 52 = mul-le-mul_left t f in
    let y : t * (t + 1) ≡ t * t + t = omega (arith, mul-add t t 1) in
    lt_irrefl 0 (omega arith)) in
    omega arith

pub digits_high : (M t : ℕ) → M < 2 ^ 106 → Rounded M t → t ≤ 2 ^ 53
digits_high M t h r =
    let l : t < 2 ^ 53 + 1 =
    lt_of_not-le (λ (f : 2 ^ 53 + 1 ≤ t).
    let p : (2 ^ 53 + 1) * t ≤ t * t = mul-le-mul_right t f in
    lt_irrefl 0 (omega arith)) in
    omega arith
