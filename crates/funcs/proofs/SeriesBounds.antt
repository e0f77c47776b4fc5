-- The series at an r from -1 to 1 is not negative, at an r from 0 at least 1, and at an r from -1/2 at least 1/2. Assumes nothing.
use mathlib.Core.Path.{◌≡◌, refl, ap, ◌∙◌, sym, subst}
use mathlib.Core.Bool.{Bool, true, false, ◌&&◌}
use mathlib.Core.List.{List, [], ◌∷◌, foldl}
use Prim.Native.Nat.{ℕ, suc, ◌+◌, ◌-◌, ◌*◌, ◌^◌, ◌≤◌}
use native.Mathlib.Nat.{le_trans, le_of_eq, mul-pos, mul-one, one-mul, mul_assoc, mul_right_comm, mul-le-mul, add-zero}
use native.Mathlib.Omega.{arith}
use lib.ListN.{length}
use lib.IntN.{ℤ}
use lib.Dec.{T, ltb, lit<, lit≤}
use borrow.Author.Tests.{le-ltb}
use lib.Ieee.{Float, nan, inf, fin, binary64, up, down, round, sum, add, mul, div, of_bits, of_int}
use lib.Ieee.Back.{round_whole}
use lib.Ieee.Fits.{down_pos, up_pos, and_l, and_r}
use Rattle.phonon.specs.Number.{f1}
use Rattle.phonon.specs.Exp.{exp_series}
use Rattle.funcs.proofs.Series.{rising, exp_divisors, exp_fold}
use Rattle.floats.proofs.Compare.{pick_no}
use Rattle.floats.proofs.Bounds.{Inside, inside_round}
use Rattle.floats.proofs.SignedBounds.{Plus, Minus, plus_wider, plus_mul, minus_mul, one_plus, one_minus, AtLeast, least_round}
use Rattle.floats.proofs.Quotients.{big, big_is, quotient_bound, div_is, plus_div, minus_div}

-- of a size of at most 1
at_most_one : (m : ℕ) (e : ℤ) → m * up e * 1 ≤ 1 * down e → m * up e ≤ 1 * down e
at_most_one m e h = omega arith

-- divisors of at least 1
abbrev all_big : List Float → Bool
all_big [] = true
all_big (d ∷ ds) = big d && all_big ds

plus_series : (m : ℕ) (e : ℤ) (ds : List Float) (p : Float) (B : ℕ) → m * up e ≤ 1 * down e → T (all_big ds) → B + length ds ≤ 2 ^ 53 → Plus B p → Plus (B + length ds) (foldl (rising (fin false m e)) p ds)
plus_series m e [] p B h a b k = rw add-zero k
plus_series m e (d ∷ ds) p B h a b k =
    let l : B + 1 + length ds ≡ B + suc (length ds) = omega arith in
    let q = plus_div m e d h (and_l (big d) (all_big ds) a) in
    let r = plus_mul B 1 p (div binary64 (fin false m e) d) (omega arith) k q in
    subst (λ (n : ℕ). Plus n (foldl (rising (fin false m e)) (add binary64 f1 (mul binary64 p (div binary64 (fin false m e) d))) ds)) l
    (plus_series m e ds (add binary64 f1 (mul binary64 p (div binary64 (fin false m e) d))) (B + 1) h (and_r (big d) (all_big ds) a) (omega arith)
    (one_plus B (mul binary64 p (div binary64 (fin false m e) d)) (omega arith) (subst (λ (n : ℕ). Plus n (mul binary64 p (div binary64 (fin false m e) d))) (mul-one B) r)))

minus_series : (m : ℕ) (e : ℤ) (ds : List Float) (p : Float) → m * up e ≤ 1 * down e → T (all_big ds) → Plus 1 p → Plus 1 (foldl (rising (fin true m e)) p ds)
minus_series m e [] p h a k = k
minus_series m e (d ∷ ds) p h a k =
    let q = minus_div m e d h (and_l (big d) (all_big ds) a) in
    minus_series m e ds (add binary64 f1 (mul binary64 p (div binary64 (fin true m e) d))) h (and_r (big d) (all_big ds) a)
    (one_minus (mul binary64 p (div binary64 (fin true m e) d)) (minus_mul 1 1 p (div binary64 (fin true m e) d) (lit≤ tt) k q))

-- the series at an r of at most 1 in size is not negative, and at most 19
pub series_most : (r : Float) → Inside 1 1 r → Plus 19 (exp_series r)
unfolding of_bits of_int
series_most nan h = absurd h
series_most (inf s) h = absurd h
series_most (fin false m e) h = subst (Plus 19) (sym (exp_fold (fin false m e))) (plus_series m e exp_divisors f1 1 (at_most_one m e h) tt (lit≤ tt) (lit≤ tt))
series_most (fin true m e) h = plus_wider 1 19 (exp_series (fin true m e)) (lit≤ tt) (subst (Plus 1) (sym (exp_fold (fin true m e))) (minus_series m e exp_divisors f1 (at_most_one m e h) tt (lit≤ tt)))

least_one_plus : (B : ℕ) (y : Float) → Plus B y → AtLeast 1 1 (add binary64 f1 y)
unfolding add sum of_bits
least_one_plus B nan k = absurd k
least_one_plus B (inf t) k = absurd k
least_one_plus B (fin true n d) k = absurd k
least_one_plus B (fin false n d) k = least_round (1 * 1 * down d + n * up d * 1) (1 * down d) 1 1 (mul-pos (lit< tt) (down_pos d)) (lit< tt) (round_whole binary64 false 1 (lit≤ tt)) (omega arith)

least_series : (m : ℕ) (e : ℤ) (ds : List Float) (p : Float) (B : ℕ) → m * up e ≤ 1 * down e → T (all_big ds) → B + length ds ≤ 2 ^ 53 → Plus B p → AtLeast 1 1 p → AtLeast 1 1 (foldl (rising (fin false m e)) p ds)
least_series m e [] p B h a b k g = g
least_series m e (d ∷ ds) p B h a b k g =
    let q = plus_div m e d h (and_l (big d) (all_big ds) a) in
    let r = subst (λ (n : ℕ). Plus n (mul binary64 p (div binary64 (fin false m e) d))) (mul-one B) (plus_mul B 1 p (div binary64 (fin false m e) d) (omega arith) k q) in
    least_series m e ds (add binary64 f1 (mul binary64 p (div binary64 (fin false m e) d))) (B + 1) h (and_r (big d) (all_big ds) a) (omega arith)
    (one_plus B (mul binary64 p (div binary64 (fin false m e) d)) (omega arith) r) (least_one_plus B (mul binary64 p (div binary64 (fin false m e) d)) r)

-- the series at an r from +0 to 1 is at least 1
pub series_least : (m : ℕ) (e : ℤ) → Inside 1 1 (fin false m e) → AtLeast 1 1 (exp_series (fin false m e))
unfolding of_bits of_int
series_least m e h = subst (AtLeast 1 1) (sym (exp_fold (fin false m e))) (least_series m e exp_divisors f1 1 (at_most_one m e h) tt (lit≤ tt) (lit≤ tt) (lit≤ tt))

-- ---- at an r from -1/2 to -0
half_div : (m : ℕ) (e : ℤ) (y : Float) → m * up e * 2 ≤ 1 * down e → T (big y) → Inside 1 2 (div binary64 (fin true m e) y)
unfolding round
half_div m e nan h k = absurd k
half_div m e (inf s) h k = absurd k
half_div m e (fin true n d) h k = absurd k
half_div m e (fin false n d) h k =
    let g = big_is n d k in
    let b : m * up e * down d * 2 ≤ 1 * (n * up d * down e) = le_trans (le_of_eq (mul_right_comm (m * up e) (down d) 2)) (quotient_bound (m * up e * 2) (down e) n d h g.1) in
    subst (Inside 1 2) (sym (div_is true m e n d g.0)) (inside_round true (m * up e * down d) (n * up d * down e) 1 2 (mul-pos (mul-pos g.0 (up_pos d)) (down_pos e)) (lit< tt) (refl, refl) b)

half_mul : (x y : Float) → Plus 1 x → Minus 1 y → Inside 1 2 y → Inside 1 2 (mul binary64 x y)
unfolding mul round
half_mul nan y a b k = absurd a
half_mul (inf s) y a b k = absurd a
half_mul (fin true m e) y a b k = absurd a
half_mul (fin false m e) nan a b k = absurd b
half_mul (fin false m e) (inf t) a b k = absurd b
half_mul (fin false m e) (fin false n d) a b k = absurd b
half_mul (fin false m e) (fin true n d) a b k =
    let h : m * up e * (n * up d * 2) ≤ 1 * down e * (1 * down d) = mul-le-mul a k in
    let l : m * up e * (n * up d) * 2 ≤ 1 * (down e * down d) =
    le_trans (le_of_eq (mul_assoc (m * up e) (n * up d) 2)) (le_trans h (le_of_eq (ap (λ (x : ℕ). x * (1 * down d)) (one-mul (down e)) ∙ ap (λ (x : ℕ). down e * x) (one-mul (down d)) ∙ sym (one-mul (down e * down d))))) in
    inside_round true (m * up e * (n * up d)) (down e * down d) 1 2 (mul-pos (down_pos e) (down_pos d)) (lit< tt) (refl, refl) l

half_one_minus : (y : Float) → Minus 1 y → Inside 1 2 y → AtLeast 1 2 (add binary64 f1 y)
unfolding add sum of_bits round
half_one_minus nan k i = absurd k
half_one_minus (inf t) k i = absurd k
half_one_minus (fin false n d) k i = absurd k
half_one_minus (fin true n d) k i =
    subst (AtLeast 1 2) (sym (pick_no (ltb (1 * 1 * down d) (n * up d * 1)) (round binary64 true (n * up d * 1 - 1 * 1 * down d) (1 * down d)) (round binary64 false (1 * 1 * down d - n * up d * 1) (1 * down d)) (le-ltb (1 * 1 * down d) (n * up d * 1) (omega arith))))
    (least_round (1 * 1 * down d - n * up d * 1) (1 * down d) 1 2 (mul-pos (lit< tt) (down_pos d)) (lit< tt) (refl, refl) (omega arith))

half_steps : (m : ℕ) (e : ℤ) (ds : List Float) (p : Float) → m * up e * 2 ≤ 1 * down e → T (all_big ds) → Plus 1 p → AtLeast 1 2 p → AtLeast 1 2 (foldl (rising (fin true m e)) p ds)
half_steps m e [] p h a k g = g
half_steps m e (d ∷ ds) p h a k g =
    let b = and_l (big d) (all_big ds) a in
    let q = minus_div m e d (omega arith) b in
    let i = half_div m e d h b in
    let y = mul binary64 p (div binary64 (fin true m e) d) in
    let n = minus_mul 1 1 p (div binary64 (fin true m e) d) (lit≤ tt) k q in
    half_steps m e ds (add binary64 f1 y) h (and_r (big d) (all_big ds) a) (one_minus y n) (half_one_minus y n (half_mul p (div binary64 (fin true m e) d) k q i))

pub series_half : (m : ℕ) (e : ℤ) → Inside 1 2 (fin true m e) → AtLeast 1 2 (exp_series (fin true m e))
unfolding of_bits of_int
series_half m e h = subst (AtLeast 1 2) (sym (exp_fold (fin true m e))) (half_steps m e exp_divisors f1 h tt (lit≤ tt) (lit≤ tt))
