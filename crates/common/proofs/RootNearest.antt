-- The definition of the root is the value nearest to the exact root. Assumes nothing.
use Rattle.std.proofs.Common.{◌≡◌, ℕ, zero, suc, ◌+◌, ◌-◌, ◌*◌, ◌/◌, ◌^◌, ◌<◌, ◌≤◌, true, false, T, pos, negsuc, sym, refl, ap, ◌∙◌, subst, le_trans, le_of_eq, lt_of_lt_of_le, lt_of_le_of_lt, lt_irrefl, lt_of_not-le, mul-le-mul_right, zero-lt-suc, mul_assoc, add-mul, mul-le-mul, lt_of_mul-lt-mul_right, mul-lt-mul_of_pos_right, one-mul, pow-suc, mul-one, le_of_mul-le-mul_right, div-one, mul-div_cancel, add-one, arith, pow_pos, pow_mono, pow-add}
use native.Mathlib.Nat.{mul-mul-mul_comm}
use native.Mathlib.Decide.{dec_lt, dec_le}
use lib.Pow.{pow-lt, shl-shr}
use lib.Ieee.{Float, nan, inf, fin, binary64, down, fits, size, units}
use lib.Ieee.Digits.{size-lt, size-le, size_reaches}
use lib.Ieee.Exact.{HasValue, units_val}
use lib.Ieee.Fits.{down_pos}
use lib.Ieee.Positive.{positive}
use Rattle.phonon.specs.Root.{root, root_of, nearest_root}
use Rattle.common.specs.Rounded.{Rounded}
use Rattle.common.specs.Nearest.{Nearest, smallest, squares}
use Rattle.common.proofs.Patterns.{reaches}
use Rattle.common.proofs.RootLaws.{nearest_rounded, digits_low, digits_high, sq_suc, sq_dbl}
use Rattle.common.proofs.RootFloat.{written, units_fits, in_range}

-- ---- a value of the format is m * 2 ^ a smallest values, m having at most 53 digits
pub record Parts (y : Float) : Type 0 where
  pub m : ℕ
  pub a : ℕ
  pub size : m < 2 ^ 53
  pub value : smallest y ≡ m * 2 ^ a
  pub square : squares y ≡ m * 2 ^ (a + 1074)
  pub some : 0 < m
  pub most : a < 2045 + 53

pub low_is : (k : ℕ) → 2 ^ suc k ≤ 2 ^ 1074 → suc k ≤ 1074
low_is k h = lt_of_not-le (λ (f : 1074 ≤ k). lt_irrefl (2 ^ suc k) (lt_of_le_of_lt h (pow-lt {i = 1074} {j = suc k} (omega arith))))

-- m * 2 ^ l / 2 ^ k
pub shift : (m l k : ℕ) → k ≤ l → m * 1 * 2 ^ l / 2 ^ k ≡ m * 2 ^ (l - k)
shift m l k h =
    ap (λ (n : ℕ). n * 2 ^ l / 2 ^ k) (mul-one m)
    ∙ ap (λ (n : ℕ). m * 2 ^ n / 2 ^ k) (let e : l ≡ (l - k) + k = omega arith in e)
    ∙ ap (λ (n : ℕ). m * n / 2 ^ k) (pow-add 2 (l - k) k)
    ∙ ap (λ (n : ℕ). n / 2 ^ k) (sym (mul_assoc m (2 ^ (l - k)) (2 ^ k)))
    ∙ shl-shr (m * 2 ^ (l - k)) k

pub raise : (m k l : ℕ) → m * 2 ^ k * 2 ^ l / 1 ≡ m * 2 ^ (k + l)
raise m k l = div-one (m * 2 ^ k * 2 ^ l) ∙ mul_assoc m (2 ^ k) (2 ^ l) ∙ ap (λ (n : ℕ). m * n) (sym (pow-add 2 k l))

small_exponent : (m k : ℕ) → suc m * 2 ^ k < 2 ^ 1024 * 1 → k < 1024
small_exponent m k h =
    lt_of_not-le (λ (f : 1024 ≤ k).
    lt_irrefl (2 ^ k)
    (lt_of_le_of_lt (le_trans (le_of_eq (sym (one-mul (2 ^ k)))) (mul-le-mul_right (2 ^ k) (zero-lt-suc m)))
    (lt_of_lt_of_le h (pow_mono {i = 1024} {j = k} f))))

pub parts : (y : Float) → T (fits binary64 y) → T (positive y) → Parts y
parts nan f p = absurd p
parts (inf s) f p = absurd p
parts (fin true m e) f p = absurd p
parts (fin false zero e) f p = absurd p
parts (fin false (suc m) (pos k)) f p =
    let w = written false m (pos k) f in
    record { m = suc m; a = k + 1074; size = w.digits; value = raise (suc m) k 1074; square = raise (suc m) k 2148 ∙ ap (λ (n : ℕ). suc m * 2 ^ n) (omega arith); some = zero-lt-suc m; most = omega (arith, small_exponent m k w.high) }
parts (fin false (suc m) (negsuc k)) f p =
    let w = written false m (negsuc k) f in
    let l = low_is k w.low in
    record { m = suc m; a = 1074 - suc k; size = w.digits; value = shift (suc m) 1074 (suc k) l; square = shift (suc m) 2148 (suc k) (omega arith) ∙ ap (λ (n : ℕ). suc m * 2 ^ n) (omega arith); some = zero-lt-suc m; most = omega arith }

-- ---- the middle's square, in units of 2 ^ (2 * j)
twice : (j : ℕ) → 2 ^ j * 2 ^ j ≡ 2 ^ (2 * j)
twice j = sym (pow-add 2 j j) ∙ ap (λ (n : ℕ). 2 ^ n) (omega arith)

square_of : (s j : ℕ) → (s * 2 ^ j) * (s * 2 ^ j) ≡ s * s * 2 ^ (2 * j)
square_of s j = mul-mul-mul_comm s (2 ^ j) s (2 ^ j) ∙ ap (λ (n : ℕ). s * s * n) (twice j)

sum_of : (t c j : ℕ) → t * 2 ^ j + c * 2 ^ j ≡ (t + c) * 2 ^ j
sum_of t c j = sym (add-mul t c (2 ^ j))

coarse : (m a j : ℕ) → j ≤ a → m * 2 ^ a ≡ m * 2 ^ (a - j) * 2 ^ j
coarse m a j h = ap (λ (n : ℕ). m * 2 ^ n) (let e : a ≡ (a - j) + j = omega arith in e) ∙ ap (λ (n : ℕ). m * n) (pow-add 2 (a - j) j) ∙ sym (mul_assoc m (2 ^ (a - j)) (2 ^ j))

above_grid : (M t c j : ℕ) → Rounded M t → t < c → 4 * (M * 2 ^ (2 * j)) < (t * 2 ^ j + c * 2 ^ j) * (t * 2 ^ j + c * 2 ^ j)
above_grid M t c j r h =
    let p : (2 * t + 1) * (2 * t + 1) ≤ (t + c) * (t + c) = mul-le-mul (omega arith) (omega arith) in
    let q : 4 * M < (t + c) * (t + c) = omega (arith, sq_suc (2 * t), sq_dbl t) in
    subst (λ (n : ℕ). 4 * (M * 2 ^ (2 * j)) < n * n) (sym (sum_of t c j))
    (lt_of_le_of_lt (le_of_eq (sym (mul_assoc 4 M (2 ^ (2 * j))))) (lt_of_lt_of_le (mul-lt-mul_of_pos_right q (pow_pos (2 * j))) (le_of_eq (sym (square_of (t + c) j)))))

odd_below : (M t c : ℕ) → Rounded M t → c < t → (t + c) * (t + c) < 4 * M
odd_below M zero c r h = absurd (lt_irrefl 0 (omega arith))
odd_below M (suc u) c r h =
    let p : (suc u + c) * (suc u + c) ≤ (2 * u + 1) * (2 * u + 1) = mul-le-mul (omega arith) (omega arith) in
    let s : suc u * suc u ≡ u * u + 2 * u + 1 = ap (λ (n : ℕ). n * n) (sym (add-one u)) ∙ sq_suc u in
    omega (arith, sq_suc (2 * u), sq_dbl u)

below_grid : (M t c j : ℕ) → Rounded M t → c < t → (t * 2 ^ j + c * 2 ^ j) * (t * 2 ^ j + c * 2 ^ j) < 4 * (M * 2 ^ (2 * j))
below_grid M t c j r h =
    subst (λ (n : ℕ). n * n < 4 * (M * 2 ^ (2 * j))) (sym (sum_of t c j))
    (lt_of_le_of_lt (le_of_eq (square_of (t + c) j)) (lt_of_lt_of_le (mul-lt-mul_of_pos_right (odd_below M t c r h) (pow_pos (2 * j))) (le_of_eq (mul_assoc 4 M (2 ^ (2 * j))))))

-- between two values of the finer grid below 2 ^ 52
fine_square : (M t : ℕ) → 2 ^ 104 ≤ M → 2 ^ 52 ≤ t → Rounded M t → (2 * t + (2 ^ 53 - 1)) * (2 * t + (2 ^ 53 - 1)) < 16 * M
fine_square M zero b lo r = absurd (lt_irrefl 0 (omega arith))
fine_square M (suc u) b lo r = go (dec_lt (2 ^ 52) (suc u))
  where
    go : Dec (2 ^ 52 < suc u) → (2 * suc u + (2 ^ 53 - 1)) * (2 * suc u + (2 ^ 53 - 1)) < 16 * M
    go (yes l) =
        let p : (2 * suc u + (2 ^ 53 - 1)) * (2 * suc u + (2 ^ 53 - 1)) ≤ (2 * (2 * u) + 1) * (2 * (2 * u) + 1) = mul-le-mul (omega arith) (omega arith) in
        let s : suc u * suc u ≡ u * u + 2 * u + 1 = ap (λ (n : ℕ). n * n) (sym (add-one u)) ∙ sq_suc u in
        omega (arith, sq_suc (2 * (2 * u)), sq_dbl (2 * u), sq_dbl u)
    go (no f) =
        let e : 2 * suc u + (2 ^ 53 - 1) ≡ 2 ^ 54 - 1 = omega arith in
        lt_of_le_of_lt (le_of_eq (ap (λ (n : ℕ). n * n) e)) (omega arith)

below_fine : (M t m a j : ℕ) → 2 ^ 104 ≤ M → 2 ^ 52 ≤ t → Rounded M t → m < 2 ^ 53 → a < j → (t * 2 ^ j + m * 2 ^ a) * (t * 2 ^ j + m * 2 ^ a) < 4 * (M * 2 ^ (2 * j))
below_fine M t m a j b lo r hm h =
    let S = t * 2 ^ j + m * 2 ^ a in
    let k = 2 ^ 53 - 1 in
    let up1 : m * 2 ^ a * 2 ≤ k * 2 ^ j = le_trans (le_of_eq (mul_assoc m (2 ^ a) 2 ∙ ap (λ (n : ℕ). m * n) (sym (pow-suc 2 a)))) (mul-le-mul (omega arith) (pow_mono {i = suc a} {j = j} h)) in
    let up2 : 2 * S ≤ (2 * t + k) * 2 ^ j = omega (arith, add-mul (2 * t) k (2 ^ j), mul_assoc 2 t (2 ^ j)) in
    let up3 : (2 * S) * (2 * S) ≤ (2 * t + k) * (2 * t + k) * 2 ^ (2 * j) = le_trans (mul-le-mul up2 up2) (le_of_eq (square_of (2 * t + k) j)) in
    let up4 : (2 * t + k) * (2 * t + k) * 2 ^ (2 * j) < 16 * M * 2 ^ (2 * j) = mul-lt-mul_of_pos_right (fine_square M t b lo r) (pow_pos (2 * j)) in
    omega (arith, sq_dbl S, mul_assoc 16 M (2 ^ (2 * j)))

-- a value above t * 2 ^ j is on its grid
not_finer : (t m a j : ℕ) → 2 ^ 52 ≤ t → m < 2 ^ 53 → a < j → t * 2 ^ j < m * 2 ^ a → ⊥
not_finer t m a j lo hm h l =
    let p : m * 2 ^ a ≤ 2 ^ 53 * 2 ^ a = mul-le-mul_right (2 ^ a) (omega arith) in
    let q : 2 ^ 52 * 2 ^ suc a ≤ t * 2 ^ j = mul-le-mul lo (pow_mono {i = suc a} {j = j} h) in
    lt_irrefl 0 (omega (arith, pow-suc 2 a))

grid_cases : (M t j : ℕ) (n m a : ℕ) → 2 ^ 104 ≤ M → 2 ^ 52 ≤ t → Rounded M t → m < 2 ^ 53 → n ≡ m * 2 ^ a
    → (t * 2 ^ j < n → 4 * (M * 2 ^ (2 * j)) < (t * 2 ^ j + n) * (t * 2 ^ j + n)) × (n < t * 2 ^ j → (t * 2 ^ j + n) * (t * 2 ^ j + n) < 4 * (M * 2 ^ (2 * j)))
grid_cases M t j n m a b lo r hm e = go (dec_le j a)
  where
    go : Dec (j ≤ a) → (t * 2 ^ j < n → 4 * (M * 2 ^ (2 * j)) < (t * 2 ^ j + n) * (t * 2 ^ j + n)) × (n < t * 2 ^ j → (t * 2 ^ j + n) * (t * 2 ^ j + n) < 4 * (M * 2 ^ (2 * j)))
    go (yes h) =
        let c = m * 2 ^ (a - j) in
        let g : n ≡ c * 2 ^ j = e ∙ coarse m a j h in (
          (λ l. subst (λ (z : ℕ). 4 * (M * 2 ^ (2 * j)) < (t * 2 ^ j + z) * (t * 2 ^ j + z)) (sym g) (above_grid M t c j r (lt_of_mul-lt-mul_right (2 ^ j) (lt_of_lt_of_le l (le_of_eq g))))),
          (λ l. subst (λ (z : ℕ). (t * 2 ^ j + z) * (t * 2 ^ j + z) < 4 * (M * 2 ^ (2 * j))) (sym g) (below_grid M t c j r (lt_of_mul-lt-mul_right (2 ^ j) (lt_of_le_of_lt (le_of_eq (sym g)) l)))),
        )
    go (no f) =
        let h : a < j = omega arith in (
          (λ l. absurd (not_finer t m a j lo hm h (lt_of_lt_of_le l (le_of_eq e)))),
          (λ l. subst (λ (z : ℕ). (t * 2 ^ j + z) * (t * 2 ^ j + z) < 4 * (M * 2 ^ (2 * j))) (sym e) (below_fine M t m a j b lo r hm h)),
        )

-- ---- the root's digits
pub record Facts (x : Float) : Type 0 where
  pub M : ℕ
  pub t : ℕ
  pub j : ℕ
  pub is : root x ≡ units binary64 false t j
  pub value : squares x ≡ M * 2 ^ (2 * j)
  pub low : 2 ^ 104 ≤ M
  pub high : M < 2 ^ 106
  pub near : Rounded M t
  pub reach : j ≤ 2000

facts_of : (x : Float) (N m b : ℕ) → root x ≡ root_of N → squares x ≡ N → N ≡ m * 2 ^ b → 0 < m → m < 2 ^ 53 → 1074 ≤ b → b < 3180 → Facts x
unfolding root_of
facts_of x N m b hr hs hN pm hm lb hb =
    let j = (size N + 1) / 2 - 53 in
    let up1 : size N ≤ 53 + b = size-le N (53 + b) (lt_of_le_of_lt (le_of_eq hN) (lt_of_lt_of_le (mul-lt-mul_of_pos_right hm (pow_pos b)) (le_of_eq (sym (pow-add 2 53 b))))) in
    let lo1 : b < size N = reaches N b (le_trans (le_of_eq (sym (one-mul (2 ^ b)))) (le_trans (mul-le-mul_right (2 ^ b) pm) (le_of_eq (sym hN)))) in
    let M = m * 2 ^ (b - 2 * j) in
    let v : N ≡ M * 2 ^ (2 * j) = hN ∙ coarse m b (2 * j) (omega arith) in
    let hi : M < 2 ^ 106 =
    lt_of_mul-lt-mul_right (2 ^ (2 * j)) (lt_of_le_of_lt (le_of_eq (sym v)) (lt_of_lt_of_le (size-lt N) (le_trans (pow_mono {i = size N} {j = 106 + 2 * j} (omega arith)) (le_of_eq (pow-add 2 106 (2 * j)))))) in
    let lo : 2 ^ 104 ≤ M =
    le_of_mul-le-mul_right (le_trans (le_of_eq (sym (pow-add 2 104 (2 * j)))) (le_trans (pow_mono {i = 104 + 2 * j} {j = size N - 1} (omega arith)) (le_trans (size_reaches N (size N - 1) (omega arith)) (le_of_eq v)))) (pow_pos (2 * j)) in
    record { M = M; t = nearest_root N j; j = j; is = hr; value = hs ∙ v; low = lo; high = hi; near = subst (λ (n : ℕ). Rounded M (nearest_root n j)) (sym v) (nearest_rounded M j (omega arith) hi); reach = omega arith }

pub facts : (x : Float) → T (fits binary64 x) → T (positive x) → Facts x
unfolding root
facts nan f p = absurd p
facts (inf s) f p = absurd p
facts (fin true m e) f p = absurd p
facts (fin false zero e) f p = absurd p
facts (fin false (suc m) e) f p = let q = parts (fin false (suc m) e) f p in facts_of (fin false (suc m) e) (squares (fin false (suc m) e)) q.m (q.a + 1074) refl refl q.square q.some q.size (omega arith) (omega arith)

-- the root as a number of smallest values
smallest_of : (v : Float) (n : ℕ) → HasValue v false n (2 ^ 1074) → smallest v ≡ n
smallest_of nan n h = absurd h
smallest_of (inf s) n h = absurd h
smallest_of (fin s m e) n h = ap (λ (y : ℕ). y / down e) h.1 ∙ mul-div_cancel n (down_pos e)

pub root_nearest : (x : Float) → T (fits binary64 x) → T (positive x) → Nearest x (root x)
root_nearest x f p =
    let k = facts x f p in
    let lo : 2 ^ 52 ≤ k.t = digits_low k.M k.t k.low k.near in
    let hi : k.t ≤ 2 ^ 53 = digits_high k.M k.t k.high k.near in
    let fine = in_range k.t k.j hi k.reach in
    let s : smallest (root x) ≡ k.t * 2 ^ k.j = ap smallest k.is ∙ smallest_of (units binary64 false k.t k.j) (k.t * 2 ^ k.j) (units_val binary64 false k.t k.j fine) in
    record {
      held = subst (λ (v : Float). T (fits binary64 v)) (sym k.is) (units_fits k.t k.j hi fine);
      above = λ y g q l. let w = parts y g q in rw (s, k.value) ((grid_cases k.M k.t k.j (smallest y) w.m w.a k.low lo k.near w.size w.value).0 (rw s at l));
      below = λ y g q l. let w = parts y g q in rw (s, k.value) ((grid_cases k.M k.t k.j (smallest y) w.m w.a k.low lo k.near w.size w.value).1 (rw s at l));
    }
