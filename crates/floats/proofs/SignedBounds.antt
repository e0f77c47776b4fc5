-- Bounds with a sign: from 0 to K, from - K to 0, at least K / L, not below - K / L. Assumes nothing.
use mathlib.Core.Path.{ap, ◌∙◌, sym, subst}
use mathlib.Core.Bool.{Bool, true, false, cond, true≢false}
use Prim.Native.Nat.{ℕ, ◌+◌, ◌-◌, ◌*◌, ◌^◌, ◌≤◌, ◌<◌}
use native.Mathlib.Nat.{le_trans, le_of_eq, mul-pos, mul-one, one-mul, mul_right_comm, mul-le-mul, mul-le-mul_right, le_of_mul-le-mul_right, mul-mul-mul_comm, add-mul}
use native.Mathlib.Omega.{arith}
use lib.IntN.{ℤ}
use lib.Dec.{T, ltb, lit<, lit≤}
use borrow.Author.Tests.{le-ltb}
use lib.Ieee.{Float, nan, inf, fin, binary64, up, down, lt, le, eq, neg, round, sum, add, mul, of_bits}
use lib.Ieee.Exact.{HasValue}
use lib.Ieee.Back.{round_whole}
use lib.Ieee.Fits.{down_pos}
use lib.Ieee.Order.{round_mono}
use Rattle.phonon.specs.Number.{f1}
use Rattle.floats.specs.Sign.{Unsigned}
use Rattle.phonon.proofs.Order.{at_most}
use Rattle.floats.proofs.Compare.{pick_no}
use Rattle.floats.proofs.Unsigned.{unsigned_round}
use Rattle.floats.proofs.Bounds.{neg_round, Inside, inside_positive, inside_round}

-- ---- not negative, of at most K; and negative, of magnitude at most K
abbrev pub Plus : ℕ → Float → Type 0
Plus K nan = ⊥
Plus K (inf s) = ⊥
Plus K (fin true m e) = ⊥
Plus K (fin false m e) = m * up e ≤ K * down e

abbrev pub Minus : ℕ → Float → Type 0
Minus K nan = ⊥
Minus K (inf s) = ⊥
Minus K (fin false m e) = ⊥
Minus K (fin true m e) = m * up e ≤ K * down e

plus_of : (K : ℕ) (v : Float) → Unsigned v → Inside K 1 v → Plus K v
plus_of K nan u h = h
plus_of K (inf s) u h = h
plus_of K (fin true m e) u h = u
plus_of K (fin false m e) u h = le_trans (le_of_eq (sym (mul-one (m * up e)))) h

pub plus_round : (a c K : ℕ) → 0 < c → K ≤ 2 ^ 53 → a ≤ K * c → Plus K (round binary64 false a c)
plus_round a c K p b h = plus_of K (round binary64 false a c) (unsigned_round a c) (inside_positive a c K 1 p (lit< tt) (round_whole binary64 false K b) (le_trans (le_of_eq (mul-one a)) h))

pub plus_wider : (A B : ℕ) (v : Float) → A ≤ B → Plus A v → Plus B v
plus_wider A B nan h k = k
plus_wider A B (inf s) h k = k
plus_wider A B (fin true m e) h k = k
plus_wider A B (fin false m e) h k = le_trans k (mul-le-mul_right (down e) h)

minus_neg : (K : ℕ) (v : Float) → Plus K v → Minus K (neg v)
unfolding neg
minus_neg K nan h = h
minus_neg K (inf s) h = h
minus_neg K (fin true m e) h = absurd h
minus_neg K (fin false m e) h = h

pub minus_round : (a c K : ℕ) → 0 < c → K ≤ 2 ^ 53 → a ≤ K * c → Minus K (round binary64 true a c)
minus_round a c K p b h = subst (Minus K) (sym (neg_round a c)) (minus_neg K (round binary64 false a c) (plus_round a c K p b h))

product_bound : (m : ℕ) (e : ℤ) (n : ℕ) (d : ℤ) (A B : ℕ) → m * up e ≤ A * down e → n * up d ≤ B * down d → m * up e * (n * up d) ≤ A * B * (down e * down d)
product_bound m e n d A B h k = le_trans (mul-le-mul h k) (le_of_eq (mul-mul-mul_comm A (down e) B (down d)))

pub plus_mul : (A B : ℕ) (x y : Float) → A * B ≤ 2 ^ 53 → Plus A x → Plus B y → Plus (A * B) (mul binary64 x y)
unfolding mul
plus_mul A B nan y b h k = absurd h
plus_mul A B (inf s) y b h k = absurd h
plus_mul A B (fin true m e) y b h k = absurd h
plus_mul A B (fin false m e) nan b h k = absurd k
plus_mul A B (fin false m e) (inf t) b h k = absurd k
plus_mul A B (fin false m e) (fin true n d) b h k = absurd k
plus_mul A B (fin false m e) (fin false n d) b h k = plus_round _ _ (A * B) (mul-pos (down_pos e) (down_pos d)) b (product_bound m e n d A B h k)

pub minus_mul : (A B : ℕ) (x y : Float) → A * B ≤ 2 ^ 53 → Plus A x → Minus B y → Minus (A * B) (mul binary64 x y)
unfolding mul
minus_mul A B nan y b h k = absurd h
minus_mul A B (inf s) y b h k = absurd h
minus_mul A B (fin true m e) y b h k = absurd h
minus_mul A B (fin false m e) nan b h k = absurd k
minus_mul A B (fin false m e) (inf t) b h k = absurd k
minus_mul A B (fin false m e) (fin false n d) b h k = absurd k
minus_mul A B (fin false m e) (fin true n d) b h k = minus_round _ _ (A * B) (mul-pos (down_pos e) (down_pos d)) b (product_bound m e n d A B h k)

-- one and a value that is not negative; one less a value of at most one
pub one_plus : (B : ℕ) (y : Float) → B + 1 ≤ 2 ^ 53 → Plus B y → Plus (B + 1) (add binary64 f1 y)
unfolding add sum of_bits
one_plus B nan b k = absurd k
one_plus B (inf t) b k = absurd k
one_plus B (fin true n d) b k = absurd k
one_plus B (fin false n d) b k = plus_round (1 * 1 * down d + n * up d * 1) (1 * down d) (B + 1) (mul-pos (lit< tt) (down_pos d)) b (omega (arith, add-mul B 1 (1 * down d), one-mul (down d), ap (λ (x : ℕ). B * x) (one-mul (down d))))

pub one_minus : (y : Float) → Minus 1 y → Plus 1 (add binary64 f1 y)
unfolding add sum of_bits
one_minus nan k = absurd k
one_minus (inf t) k = absurd k
one_minus (fin false n d) k = absurd k
one_minus (fin true n d) k =
    subst (Plus 1) (sym (pick_no (ltb (1 * 1 * down d) (n * up d * 1)) _ _ (le-ltb (1 * 1 * down d) (n * up d * 1) (omega arith))))
    (plus_round (1 * 1 * down d - n * up d * 1) (1 * down d) 1 (mul-pos (lit< tt) (down_pos d)) (lit≤ tt) (omega arith))

-- ---- at least K / L
abbrev pub AtLeast : ℕ → ℕ → Float → Type 0
AtLeast K L nan = ⊥
AtLeast K L (inf true) = ⊥
AtLeast K L (inf false) = Unit {0}
AtLeast K L (fin true m e) = ⊥
AtLeast K L (fin false m e) = K * down e ≤ m * up e * L

least_of : (K L : ℕ) (w v : Float) → HasValue w false K L → T (le w v) → Unsigned v → AtLeast K L v
unfolding le lt eq
least_of K L w nan h l p = p
least_of K L w (inf true) h l p = p
least_of K L w (inf false) h l p = tt
least_of K L w (fin true m e) h l p = p
least_of K L nan (fin false m e) h l p = absurd h
least_of K L (inf s) (fin false m e) h l p = absurd h
least_of K L (fin true n d) (fin false m e) h l p = absurd (true≢false h.0)
least_of K L (fin false n d) (fin false m e) h l p =
    let c : n * up d * down e ≤ m * up e * down d = at_most _ _ true l in
    le_of_mul-le-mul_right
    (le_trans (le_of_eq (mul_right_comm K (down e) (down d) ∙ ap (λ (x : ℕ). x * down e) (sym h.1) ∙ mul_right_comm (n * up d) L (down e)))
    (le_trans (mul-le-mul_right L c) (le_of_eq (mul_right_comm (m * up e) (down d) L))))
    (down_pos d)

pub least_round : (a c K L : ℕ) → 0 < c → 0 < L → HasValue (round binary64 false K L) false K L → K * c ≤ a * L → AtLeast K L (round binary64 false a c)
least_round a c K L p q v h = least_of K L (round binary64 false K L) (round binary64 false a c) v (round_mono binary64 K L a c q p h) (unsigned_round a c)

-- ---- no NaN, and not below - K / L
abbrev pub Lower : ℕ → ℕ → Float → Type 0
Lower K L nan = ⊥
Lower K L (inf true) = ⊥
Lower K L (inf false) = Unit {0}
Lower K L (fin true m e) = m * up e * L ≤ K * down e
Lower K L (fin false m e) = Unit {0}

lower_unsigned : (K L : ℕ) (v : Float) → Unsigned v → Lower K L v
lower_unsigned K L nan p = p
lower_unsigned K L (inf true) p = p
lower_unsigned K L (inf false) p = tt
lower_unsigned K L (fin true m e) p = absurd p
lower_unsigned K L (fin false m e) p = tt

pub lower_inside : (K L : ℕ) (v : Float) → Inside K L v → Lower K L v
lower_inside K L nan p = p
lower_inside K L (inf s) p = absurd p
lower_inside K L (fin true m e) p = p
lower_inside K L (fin false m e) p = tt

lower_cond : (K L : ℕ) (b : Bool) (x y : Float) → Lower K L x → Lower K L y → Lower K L (cond b x y)
lower_cond K L true x y p q = p
lower_cond K L false x y p q = q

-- a less b
pub lower_difference : (a b c K L : ℕ) → 0 < c → 0 < L → HasValue (round binary64 false K L) false K L → (b - a) * L ≤ K * c → Lower K L (sum binary64 false a true b c)
unfolding sum
lower_difference a b c K L p q v h =
    lower_cond K L (ltb a b) (round binary64 true (b - a) c) (round binary64 false (a - b) c) (lower_inside K L (round binary64 true (b - a) c) (inside_round true (b - a) c K L p q v h)) (lower_unsigned K L (round binary64 false (a - b) c) (unsigned_round (a - b) c))
