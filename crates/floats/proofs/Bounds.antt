-- Bounds on the size of a rounded result. Assumes nothing.
use mathlib.Core.Path.{◌≡◌, refl, ap, ◌∙◌, sym, subst}
use mathlib.Core.Bool.{Bool, true, false, ◌&&◌, beq, cond, true≢false}
use Prim.Native.Nat.{ℕ, zero, suc, ◌+◌, ◌-◌, ◌*◌, ◌/◌, ◌%◌, ◌^◌, ◌≤◌, ◌<◌, compare}
use native.Mathlib.Nat.{le_trans, le_of_eq, mul-pos, mul-one, mul_assoc, mul_comm, mul_right_comm, mul-le-mul, mul-le-mul_right, le_of_mul-le-mul_right, mul-mul-mul_comm, add-mul}
use native.Mathlib.Omega.{arith}
use lib.IntN.{pos}
use lib.Dec.{T, ltb, lit<}
use lib.Ieee.{Float, nan, inf, fin, binary64, up, down, unlike, lt, le, eq, neg, odd, units, round, sum, add, mul, size, nearest}
use lib.Ieee.Exact.{HasValue}
use lib.Ieee.Back.{round_whole}
use lib.Ieee.Fits.{down_pos}
use lib.Ieee.Order.{round_mono}
use Rattle.floats.specs.Size.{Within}
use Rattle.phonon.proofs.Order.{at_most}
use Rattle.floats.proofs.Compare.{negative_zero}

-- ---- rounding is the same on both sides of zero
neg_odd : (d q k l : ℕ) → odd d true q k l ≡ neg (odd d false q k l)
unfolding odd neg
neg_odd d zero k l = refl
neg_odd d (suc q) k l = refl

neg_units : (q k : ℕ) → units binary64 true q k ≡ neg (units binary64 false q k)
unfolding units neg
neg_units q k = go (ltb (q * 2 ^ k) (2 ^ 2098))
  where
    go : (b : Bool) → cond b (odd 54 true q k 1074) (inf true) ≡ neg (cond b (odd 54 false q k 1074) (inf false))
    go true = neg_odd 54 q k 1074
    go false = refl

pub neg_round : (a c : ℕ) → round binary64 true a c ≡ neg (round binary64 false a c)
unfolding round
neg_round a c =
    let n = a * 2 ^ 1074 in
    let k = size (n / c) - 53 in
    let u = c * 2 ^ k in
    neg_units (nearest (n / u) (compare (n % u * 2) u)) k

-- ---- bounds by a fraction: finite, of magnitude at most K / L
abbrev pub Inside : ℕ → ℕ → Float → Type 0
Inside K L nan = ⊥
Inside K L (inf s) = ⊥
Inside K L (fin s m e) = m * up e * L ≤ K * down e

inside_neg : (K L : ℕ) (v : Float) → Inside K L v → Inside K L (neg v)
unfolding neg
inside_neg K L nan h = h
inside_neg K L (inf s) h = h
inside_neg K L (fin s m e) h = h

between : (K L : ℕ) (v w : Float) → 0 < L → T (le (fin false 0 (pos 0)) v) → T (le v w) → HasValue w false K L → Inside K L v
unfolding le lt eq
between K L nan w p lo hi h = absurd lo
between K L (inf true) w p lo hi h = absurd lo
between K L (inf false) nan p lo hi h = absurd h
between K L (inf false) (inf t) p lo hi h = absurd h
between K L (inf false) (fin t n d) p lo hi h = absurd hi
between K L (fin true m e) w p lo hi h =
    let z : m * up e ≡ 0 = negative_zero m e lo in
    le_trans (le_of_eq (ap (λ (x : ℕ). x * L) z)) (omega arith)
between K L (fin false m e) nan p lo hi h = absurd h
between K L (fin false m e) (inf t) p lo hi h = absurd h
between K L (fin false m e) (fin true n d) p lo hi h = absurd (true≢false h.0)
between K L (fin false m e) (fin false n d) p lo hi h =
    let l : m * up e * down d ≤ n * up d * down e = at_most _ _ true hi in
    le_of_mul-le-mul_right
    (le_trans (le_of_eq (mul_right_comm (m * up e) L (down d)))
    (le_trans (mul-le-mul_right L l)
    (le_of_eq (mul_right_comm (n * up d) (down e) L ∙ ap (λ (x : ℕ). x * down e) h.1 ∙ mul_right_comm K (down d) (down e)))))
    (down_pos d)

pub inside_positive : (a c K L : ℕ) → 0 < c → 0 < L → HasValue (round binary64 false K L) false K L → a * L ≤ K * c → Inside K L (round binary64 false a c)
unfolding round
inside_positive a c K L p q v h = between K L (round binary64 false a c) (round binary64 false K L) q (round_mono binary64 0 1 a c (lit< tt) p (omega arith)) (round_mono binary64 a c K L p q h) v

pub inside_round : (s : Bool) (a c K L : ℕ) → 0 < c → 0 < L → HasValue (round binary64 false K L) false K L → a * L ≤ K * c → Inside K L (round binary64 s a c)
inside_round false a c K L p q v h = inside_positive a c K L p q v h
inside_round true a c K L p q v h = subst (Inside K L) (sym (neg_round a c)) (inside_neg K L (round binary64 false a c) (inside_positive a c K L p q v h))

inside_cond : (K L : ℕ) (b : Bool) (x y : Float) → Inside K L x → Inside K L y → Inside K L (cond b x y)
inside_cond K L true x y h k = h
inside_cond K L false x y h k = k

-- a difference and a sum: the magnitude is at most the sum's, or where the signs differ, the difference's
pub inside_sum : (s t : Bool) (a b c K L : ℕ) → 0 < c → 0 < L → HasValue (round binary64 false K L) false K L → (a + b) * L ≤ K * c → Inside K L (sum binary64 s a t b c)
unfolding sum
inside_sum s t a b c K L p q v h =
    let x : (b - a) * L ≤ (a + b) * L = mul-le-mul_right L (omega arith) in
    let y : (a - b) * L ≤ (a + b) * L = mul-le-mul_right L (omega arith) in
    inside_cond K L (beq s t) _ _ (inside_round s (a + b) c K L p q v h)
    (inside_cond K L (ltb a b) _ _ (inside_round t (b - a) c K L p q v (le_trans x h)) (inside_round (s && ltb b a) (a - b) c K L p q v (le_trans y h)))

pub inside_difference : (a b c K L : ℕ) → 0 < c → 0 < L → HasValue (round binary64 false K L) false K L → (a - b) * L ≤ K * c → (b - a) * L ≤ K * c → Inside K L (sum binary64 false a true b c)
unfolding sum
inside_difference a b c K L p q v h k = inside_cond K L (ltb a b) _ _ (inside_round true (b - a) c K L p q v k) (inside_round (false && ltb b a) (a - b) c K L p q v h)

-- ---- bounds by a whole number
within_of : (K : ℕ) (v : Float) → Inside K 1 v → Within K v
within_of K nan h = h
within_of K (inf s) h = h
within_of K (fin s m e) h = le_trans (le_of_eq (sym (mul-one (m * up e)))) h

pub within_mul : (A B : ℕ) (x y : Float) → A * B ≤ 2 ^ 53 → Within A x → Within B y → Within (A * B) (mul binary64 x y)
unfolding mul
within_mul A B nan y b h k = absurd h
within_mul A B (inf s) y b h k = absurd h
within_mul A B (fin s m e) nan b h k = absurd k
within_mul A B (fin s m e) (inf t) b h k = absurd k
within_mul A B (fin s m e) (fin t n d) b h k =
    let a = m * up e * (n * up d) in
    let c = down e * down d in
    let l : a * 1 ≤ A * B * c = le_trans (le_of_eq (mul-one a)) (le_trans (mul-le-mul h k) (le_of_eq (mul-mul-mul_comm A (down e) B (down d)))) in
    within_of (A * B) (round binary64 (unlike s t) a c) (inside_round (unlike s t) a c (A * B) 1 (mul-pos (down_pos e) (down_pos d)) (lit< tt) (round_whole binary64 false (A * B) b) l)

pub within_add : (A B : ℕ) (x y : Float) → A + B ≤ 2 ^ 53 → Within A x → Within B y → Within (A + B) (add binary64 x y)
unfolding add
within_add A B nan y b h k = absurd h
within_add A B (inf s) y b h k = absurd h
within_add A B (fin s m e) nan b h k = absurd k
within_add A B (fin s m e) (inf t) b h k = absurd k
within_add A B (fin s m e) (fin t n d) b h k =
    let p : m * up e * down d ≤ A * (down e * down d) = le_trans (mul-le-mul_right (down d) h) (le_of_eq (mul_assoc A (down e) (down d))) in
    let q : n * up d * down e ≤ B * (down e * down d) = le_trans (mul-le-mul_right (down e) k) (le_of_eq (mul_assoc B (down d) (down e) ∙ ap (λ (y : ℕ). B * y) (mul_comm (down d) (down e)))) in
    within_of (A + B) (sum binary64 s (m * up e * down d) t (n * up d * down e) (down e * down d))
    (inside_sum s t (m * up e * down d) (n * up d * down e) (down e * down d) (A + B) 1 (mul-pos (down_pos e) (down_pos d)) (lit< tt) (round_whole binary64 false (A + B) b) (omega (arith, add-mul A B (down e * down d))))
