-- The library's root, which rounds twice the root with half a place more where it goes on, is the definition's. Assumes nothing.
use Rattle.std.proofs.Common.{◌≡◌, ℕ, zero, suc, ◌+◌, ◌-◌, ◌*◌, ◌/◌, ◌%◌, ◌^◌, ◌<◌, ◌≤◌, Bool, true, false, cond, T, eqb, is_nan, ℤ, pos, negsuc, sym, refl, ap, ◌∙◌, subst, le_trans, le_of_eq, lt_of_lt_of_le, lt_of_le_of_lt, lt_irrefl, lt_of_not-le, mul-le-mul_right, zero-lt-suc, mul_assoc, mul_comm, mul-le-mul, lt_of_mul-lt-mul_right, mul-lt-mul_of_pos_right, le_of_mul-le-mul_right, pow-suc, add-mul, mul-add, arith, eqb→eq, pow_pos, pow-add}
use Prim.Native.Nat.{compare, Ordering}
use native.Mathlib.Nat.{mul-mul-mul_comm, mul_left_comm, mul-pos, le-div_iff_mul-le, div-lt_iff_lt-mul, div-add-mod'}
use lib.Dec.{lt→ltb}
use lib.Pow.{split, shr-shr}
use lib.Ieee.{Float, nan, inf, fin, binary64, of_bits, up, down, fits, size, nearest, units, round, sqrt, root_below, root_twice}
use lib.Ieee.Fits.{round_is}
use lib.Ieee.Nearest.{closest, closest_same, div_same}
use lib.Ieee.Root.{whole_part}
use denote.Floats.{passes}
use Rattle.phonon.specs.Root.{root}
use Rattle.phonon.proofs.Order.{is_nan_lem}
use Rattle.common.specs.Rounded.{Rounded}
use Rattle.common.proofs.Patterns.{size_is}
use Rattle.common.proofs.RootLaws.{sq_suc, sq_dbl, IsRoot, Cmp, cmp, by_compare, rounded_unique}
use Rattle.common.proofs.RootNearest.{facts, shift, raise, low_is}
use Rattle.common.proofs.RootFloat.{written}

-- ---- squares
less : {a b : ℕ} → a * a < b * b → a < b
less {a} {b} h = lt_of_not-le (λ (k : b ≤ a). lt_irrefl (a * a) (lt_of_lt_of_le h (mul-le-mul k k)))

-- ---- Twice the root of N = M * H * H, with 1 more where it goes on, beside M: H is twice K
record Twice (N r T : ℕ) : Type 0 where
  pub least : 2 * r ≤ T
  pub most : T ≤ 2 * r + 1
  pub ends : T ≡ 2 * r → r * r ≡ N

twice_of : (N r : ℕ) → Twice N r (2 * r + cond (eqb (r * r) N) 0 1)
twice_of N r = go (eqb (r * r) N) refl
  where
    go : (b : Bool) → eqb (r * r) N ≡ b → Twice N r (2 * r + cond b 0 1)
    go true e = record { least = omega arith; most = omega arith; ends = λ h. eqb→eq (r * r) N (subst T (sym e) tt) }
    go false e = record { least = omega arith; most = omega arith; ends = λ h. absurd (let g : 2 * r + 1 ≡ 2 * r = h in omega arith) }

module _ (M N r s t K : ℕ) (p : 0 < K) (hN : N ≡ M * 4 * (K * K)) (hr : IsRoot N r) (hs : IsRoot M s) (ht : Twice N r t) where
  square : (a : ℕ) → (a * (2 * K)) * (a * (2 * K)) ≡ a * a * 4 * (K * K)
  square a = mul-mul-mul_comm a (2 * K) a (2 * K) ∙ ap (λ (z : ℕ). a * a * z) (mul-mul-mul_comm 2 K 2 K) ∙ sym (mul_assoc (a * a) 4 (K * K))

  odd_square : ((2 * s + 1) * K) * ((2 * s + 1) * K) ≡ (2 * s + 1) * (2 * s + 1) * (K * K)
  odd_square = mul-mul-mul_comm (2 * s + 1) K (2 * s + 1) K

  positive_square : 0 < K * K
  positive_square = mul-pos p p

  reached : s * (2 * K) < r + 1
  reached = less (lt_of_le_of_lt (le_trans (le_of_eq (square s)) (le_trans (mul-le-mul_right (K * K) (mul-le-mul_right 4 hs.0)) (le_of_eq (sym hN)))) hr.1)

  under : r < (s + 1) * (2 * K)
  under = less (lt_of_le_of_lt hr.0 (lt_of_lt_of_le (lt_of_le_of_lt (le_of_eq hN) (mul-lt-mul_of_pos_right (mul-lt-mul_of_pos_right hs.1 (omega arith)) positive_square)) (le_of_eq (sym (square (s + 1))))))

  quotient : t / (4 * K) ≡ s
  quotient =
      let a : s * (4 * K) ≡ 2 * (s * (2 * K)) = omega (arith, mul-add s (2 * K) (2 * K)) in
      let b : (s + 1) * (4 * K) ≡ 2 * ((s + 1) * (2 * K)) = omega (arith, mul-add (s + 1) (2 * K) (2 * K)) in
      let low : s ≤ t / (4 * K) = (le-div_iff_mul-le {k = 4 * K} (omega arith)).1 (omega (arith, reached, ht.least)) in
      let high : t / (4 * K) < s + 1 = (div-lt_iff_lt-mul {k = 4 * K} (omega arith)).1 (omega (arith, under, ht.most)) in
      omega arith

  middle : s * (4 * K) + 2 * K ≡ 2 * ((2 * s + 1) * K)
  middle = let a = add-mul (2 * s) 1 K in let b = mul_assoc 2 s K in let d = mul_left_comm s 4 K in omega arith

  rest : s * (4 * K) + t % (4 * K) ≡ t
  rest = ap (λ (q : ℕ). q * (4 * K) + t % (4 * K)) (sym quotient) ∙ div-add-mod' t (4 * K)

  compared : (o : Ordering) → Cmp o (t % (4 * K) * 2) (4 * K) → Cmp o (4 * (M * 1)) ((2 * s + 1) * (2 * s + 1) * 1)
  compared Ordering.lt h =
      let l : r + 1 ≤ (2 * s + 1) * K = omega (arith, ht.least, middle, rest) in
      let e : M * 4 < (2 * s + 1) * (2 * s + 1) = lt_of_mul-lt-mul_right (K * K) (lt_of_le_of_lt (le_of_eq (sym hN)) (lt_of_lt_of_le hr.1 (le_trans (mul-le-mul l l) (le_of_eq odd_square)))) in
      omega arith
  compared Ordering.gt h =
      let l : (2 * s + 1) * K ≤ r = omega (arith, ht.most, middle, rest) in
      let e : (2 * s + 1) * (2 * s + 1) ≤ M * 4 = le_of_mul-le-mul_right (le_trans (le_of_eq (sym odd_square)) (le_trans (mul-le-mul l l) (le_trans hr.0 (le_of_eq hN)))) positive_square in
      omega (arith, sq_suc (2 * s), sq_dbl s)
  compared Ordering.eq h =
      let l : (2 * s + 1) * K ≡ r = omega (arith, ht.least, ht.most, middle, rest) in
      let g : r * r ≡ N = ht.ends (omega (arith, middle, rest)) in
      let q : (2 * s + 1) * (2 * s + 1) * (K * K) ≡ M * 4 * (K * K) = sym odd_square ∙ ap (λ (z : ℕ). z * z) l ∙ g ∙ hN in
      let a : (2 * s + 1) * (2 * s + 1) ≤ M * 4 = le_of_mul-le-mul_right (le_of_eq q) positive_square in
      let b : M * 4 ≤ (2 * s + 1) * (2 * s + 1) = le_of_mul-le-mul_right (le_of_eq (sym q)) positive_square in
      omega arith

  closest_is : 0 < M → Rounded M (closest t (4 * K))
  closest_is m =
      subst (λ (q : ℕ). Rounded M (nearest q (compare (t % (4 * K) * 2) (4 * K)))) (sym quotient)
      (by_compare M s 1 (compare (t % (4 * K) * 2) (4 * K)) (pow_pos 0) m hs (compared _ (cmp _ _)))

-- ---- how many digits the rounding keeps
size_shift : (q j s : ℕ) → q / 2 ^ j ≡ s → 2 ^ 52 ≤ s → s < 2 ^ 53 → size q ≡ suc (52 + j)
size_shift q j s e lo hi =
    size_is q (52 + j)
    (le_trans (le_of_eq (pow-add 2 52 j)) (le_trans (mul-le-mul_right (2 ^ j) (le_trans lo (le_of_eq (sym e)))) (omega (arith, split q j))))
    (lt_of_lt_of_le ((div-lt_iff_lt-mul (pow_pos j)).0 (lt_of_le_of_lt (le_of_eq e) hi)) (le_of_eq (sym (pow-add 2 53 j) ∙ ap (λ (n : ℕ). 2 ^ n) (omega arith))))

four_of : (i : ℕ) → 2 ^ (i + 2) ≡ 4 * 2 ^ i
four_of i = pow-add 2 i 2 ∙ mul_comm (2 ^ i) 4

-- twice the root of M * 2 ^ (2 * j + 2394), rounded
rounded : (M N j t : ℕ) → 2 ^ 104 ≤ M → M < 2 ^ 106 → N ≡ M * 2 ^ (2 * j) * 2 ^ 2394 → Rounded M t → round binary64 false (root_twice N) (2 ^ 2272) ≡ units binary64 false t j
unfolding root_twice
rounded M N j t lo hi e r =
    let K = 2 ^ (j + 1196) in
    let R = root_below (size N) N in
    let s = root_below (size M) M in
    let hs = whole_part M in
    let T = root_twice N in
    let n = T * 2 ^ 1074 in
    let den = 2 ^ 2272 in
    let twos : 2 ^ (2 * j) * 2 ^ 2394 ≡ 4 * (K * K) =
    sym (pow-add 2 (2 * j) 2394) ∙ ap (λ (i : ℕ). 2 ^ i) (same j) ∙ four_of (j + 1196 + (j + 1196)) ∙ ap (λ (z : ℕ). 4 * z) (pow-add 2 (j + 1196) (j + 1196)) in
    let hN : N ≡ M * 4 * (K * K) = e ∙ mul_assoc M (2 ^ (2 * j)) (2 ^ 2394) ∙ ap (λ (z : ℕ). M * z) twos ∙ sym (mul_assoc M 4 (K * K)) in
    let tw = twice_of N R in
    let p = pow_pos (j + 1196) in
    let k4 : 4 * K ≡ 2 ^ (1198 + j) = sym (four_of (j + 1196)) ∙ ap (λ (i : ℕ). 2 ^ i) (more j) in
    let near : Rounded M (closest T (4 * K)) = closest_is M N R s T K p hN (whole_part N) hs tw (above lo) in
    let cut : n / den ≡ T / 2 ^ 1198 = div_same n den T (2 ^ 1198) (pow_pos 2272) (pow_pos 1198) (mul_assoc T (2 ^ 1074) (2 ^ 1198)) in
    let head : n / den / 2 ^ j ≡ s = ap (λ (z : ℕ). z / 2 ^ j) cut ∙ shr-shr T 1198 j ∙ ap (λ (z : ℕ). T / z) (sym k4) ∙ quotient M N R s T K p hN (whole_part N) hs tw in
    let digits : size (n / den) ≡ suc (52 + j) = size_shift (n / den) j s head (least_root M s lo hs) (most_root M s hi hs) in
    let kept : size (n / den) - 53 ≡ j = ap (λ (z : ℕ). z - 53) digits ∙ taken j in
    let scaled : n * (4 * K) ≡ T * (den * 2 ^ j) =
    mul_assoc T (2 ^ 1074) (4 * K) ∙ ap (λ (z : ℕ). T * z) (ap (λ (z : ℕ). 2 ^ 1074 * z) (k4 ∙ pow-add 2 1198 j) ∙ sym (mul_assoc (2 ^ 1074) (2 ^ 1198) (2 ^ j))) in
    round_is binary64 false T den
    ∙ ap (λ (k : ℕ). units binary64 false (closest n (den * 2 ^ k)) k) kept
    ∙ ap (λ (z : ℕ). units binary64 false z j) (closest_same n (den * 2 ^ j) T (4 * K) (mul-pos (pow_pos 2272) (pow_pos j)) (omega (arith, p)) scaled ∙ rounded_unique M _ t near r)
  where
    same : (j : ℕ) → 2 * j + 2394 ≡ j + 1196 + (j + 1196) + 2
    same j = omega arith

    more : (j : ℕ) → j + 1196 + 2 ≡ 1198 + j
    more j = omega arith

    taken : (j : ℕ) → suc (52 + j) - 53 ≡ j
    taken j = omega arith

    above : {M : ℕ} → 2 ^ 104 ≤ M → 0 < M
    above h = omega arith

    least_root : (M s : ℕ) → 2 ^ 104 ≤ M → IsRoot M s → 2 ^ 52 ≤ s
    least_root M s h r = let l : 2 ^ 52 < s + 1 = less (lt_of_le_of_lt h r.1) in omega arith

    most_root : (M s : ℕ) → M < 2 ^ 106 → IsRoot M s → s < 2 ^ 53
    most_root M s h r = less (lt_of_le_of_lt r.0 h)

-- 2394 places more are exact
finer : (m : ℕ) (e : ℤ) → T (fits binary64 (fin false (suc m) e)) → suc m * up e * 2 ^ 4542 / down e ≡ suc m * up e * 2 ^ 2148 / down e * 2 ^ 2394
finer m (pos k) f =
    raise (suc m) k 4542 ∙ ap (λ (i : ℕ). suc m * 2 ^ i) (same k) ∙ ap (λ (z : ℕ). suc m * z) (pow-add 2 (k + 2148) 2394) ∙ sym (mul_assoc (suc m) (2 ^ (k + 2148)) (2 ^ 2394))
    ∙ ap (λ (z : ℕ). z * 2 ^ 2394) (sym (raise (suc m) k 2148))
  where
    same : (k : ℕ) → k + 4542 ≡ k + 2148 + 2394
    same k = omega arith
finer m (negsuc k) f =
    let l = low_is k (written false m (negsuc k) f).low in
    shift (suc m) 4542 (suc k) (wide l) ∙ ap (λ (i : ℕ). suc m * 2 ^ i) (same l) ∙ ap (λ (z : ℕ). suc m * z) (pow-add 2 (2148 - suc k) 2394) ∙ sym (mul_assoc (suc m) (2 ^ (2148 - suc k)) (2 ^ 2394))
    ∙ ap (λ (z : ℕ). z * 2 ^ 2394) (sym (shift (suc m) 2148 (suc k) (narrow l)))
  where
    wide : {k : ℕ} → k ≤ 1074 → k ≤ 4542
    wide h = omega arith

    narrow : {k : ℕ} → k ≤ 1074 → k ≤ 2148
    narrow h = omega arith

    same : {k : ℕ} → k ≤ 1074 → 4542 - k ≡ 2148 - k + 2394
    same h = omega arith

zero_is : (s : Bool) (e : ℤ) → T (fits binary64 (fin s zero e)) → fin s 0 (pos 0) ≡ fin s zero e
unfolding fits
zero_is s (pos zero) f = refl
zero_is s (pos (suc k)) f = let h = eqb→eq (2 ^ suc k * 1) 1 f in absurd (lt_irrefl 0 (omega (arith, pow-suc 2 k, pow_pos k)))
zero_is s (negsuc k) f = let h = eqb→eq (1 * 2 ^ suc k) 1 f in absurd (lt_irrefl 0 (omega (arith, pow-suc 2 k, pow_pos k)))

pub machine_root : (x : Float) → T (fits binary64 x) → sqrt binary64 x ≡ root x
unfolding sqrt root
machine_root nan f = refl
machine_root (inf true) f = refl
machine_root (inf false) f = refl
machine_root (fin s zero e) f = zero_is s e f
machine_root (fin true (suc m) e) f = refl
machine_root (fin false (suc m) e) f =
    let k = facts (fin false (suc m) e) f (lt→ltb _ _ (zero-lt-suc m)) in
    rounded k.M _ k.j k.t k.low k.high (finer m e f ∙ ap (λ (z : ℕ). z * 2 ^ 2394) k.value) k.near ∙ sym k.is

-- as a machine's root is told of an f64
pub root_told : (x : Float) → fits binary64 x ≡ true → sqrt binary64 x ≡ root x
root_told x f = machine_root x (passes _ f)

-- every NaN is one
pub nan_told : (x y : Float) → fits binary64 x ≡ true → y ≡ sqrt binary64 x → is_nan y ≡ true → of_bits binary64 9221120237041090560 ≡ root x
unfolding of_bits
nan_told x y f e n = is_nan_lem y n ∙ e ∙ root_told x f
