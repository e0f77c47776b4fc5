-- A number y of size at most 1048577, added to 1.5 * 2 ^ 52. From 2 ^ 52 to 2 ^ 53 the floats are the whole numbers, so the sum is one of the two
-- around y + 1.5 * 2 ^ 52; a comparison tells which, and so the floor. Assumes nothing.
use mathlib.Core.Path.{◌≡◌, refl, ap, ◌∙◌, sym, subst}
use mathlib.Core.Bool.{Bool, true, false, not, ◌&&◌, cond, true≢false}
use Prim.Native.Nat.{ℕ, zero, suc, ◌+◌, ◌-◌, ◌*◌, ◌/◌, ◌%◌, ◌^◌, ◌≤◌, ◌<◌}
use native.Mathlib.Nat.{lt_irrefl, mul-one, one-mul, zero-mul, mul_assoc, mul_comm, mul_right_comm, mul-pos, mul-le-mul, mul-le-mul_right, add-mul, pow-suc, add-mul-div_right, lt_of_mul-lt-mul_right, mul-lt-mul_of_pos_right, le-div_iff_mul-le, div-lt_iff_lt-mul, div-mul-le_self, div-eq_of_lt-le}
use native.Mathlib.Decide.{dec_lt}
use native.Mathlib.Omega.{arith}
use lib.IntN.{ℤ, pos, negsuc, neg_ℤ}
use lib.Dec.{T, ltb, lit<, ltb→lt}
use lib.Pow.{pow_pos}
use borrow.Author.Tests.{lt-ltb, le-ltb, le-leb, lt-leb, ltb-true, ltb-false}
use lib.Ieee.{Float, nan, inf, fin, binary64, up, down, minus, below, lt, neg, round, sum, add, sub, of_bits, of_int, to_bits, fits, is_nan}
use lib.Ieee.Exact.{HasValue}
use lib.Ieee.Back.{round_whole}
use lib.Ieee.Fits.{down_pos, round-fits}
use lib.Ieee.Order.{round_mono}
use lib.Ieee.Scale.{round_same}
use lib.Ieee.Positive.{num, den, positive, own_value, positive_of_value, values_of_le, between}
use Rattle.common.proofs.Patterns.{to_bits_value, rescaled, no_nan_of}
use Rattle.common.proofs.RootFloat.{written}
use Rattle.phonon.specs.Number.{bits, f1, float, ◌⊕◌, ◌⊖◌}
use Rattle.phonon.specs.Trig.{floor, quadrant}
use Rattle.floats.specs.Size.{Within}

abbrev shift : ℕ
shift = 6755399441055744

-- the same as an f64
abbrev pub shift_f : Float
shift_f = bits 0x4338_0000_0000_0000

-- ---- the sum as a fraction, of a number of magnitude Y / D
abbrev moved : Bool → ℕ → ℕ → ℕ
moved s Y D = cond s (shift * D - Y) (shift * D + Y)

sum_moved : (s : Bool) (m : ℕ) (e : ℤ) → m * up e ≤ 1048577 * down e → fin s m e ⊕ shift_f ≡ round binary64 false (moved s (m * up e) (down e)) (down e)
unfolding add sum of_bits
sum_moved false m e h =
    let p : m * up e * 1 + shift * down e ≡ shift * down e + m * up e = omega arith in
    ap (λ (x : ℕ). round binary64 false x (down e * 1)) p ∙ ap (λ (x : ℕ). round binary64 false (shift * down e + m * up e) x) (mul-one (down e))
sum_moved true m e h =
    let a = m * up e * 1 in
    let b = shift * down e in
    let p : b - a ≡ shift * down e - m * up e = omega arith in
    let l : a < b = omega (arith, down_pos e) in
    ap (λ (t : Bool). cond t (round binary64 false (b - a) (down e * 1)) (round binary64 (true && ltb b a) (a - b) (down e * 1))) (lt-ltb a b l)
    ∙ ap (λ (x : ℕ). round binary64 false x (down e * 1)) p
    ∙ ap (λ (x : ℕ). round binary64 false (shift * down e - m * up e) x) (mul-one (down e))

-- ---- from 2 ^ 52 to 2 ^ 53 a fraction is rounded to one of the whole numbers around it
record Whole (t : Float) (q : ℕ) : Type 0 where
  pub k : ℕ
  pub value : HasValue t false k 1
  pub least : q ≤ k
  pub most : k ≤ q + 1
  pub low : 2 ^ 52 ≤ q
  pub high : q < 2 ^ 53 - 1

-- with a fraction its digits would be too many
no_fraction : (m q k : ℕ) → m < 2 ^ 53 → 2 ^ 52 ≤ q → q * 2 ^ suc k ≤ m * 1 * 1 → ⊥
no_fraction m q k d l lo =
    let two : 2 ^ suc k ≡ 2 ^ k * 2 = pow-suc 2 k in
    let least : 2 ≤ 2 ^ suc k = omega (arith, two, pow_pos k) in
    let big : 2 ^ 52 * 2 ≤ q * 2 ^ suc k = mul-le-mul l least in
    lt_irrefl 0 (omega (arith, big, lo, d))

whole_float : (t : Float) (q : ℕ) → T (fits binary64 t) → T (positive t) → 2 ^ 52 ≤ q → q < 2 ^ 53 - 1 → q * den t ≤ num t * 1 → num t * 1 ≤ (q + 1) * den t → Whole t q
whole_float nan q f p l b lo hi = absurd p
whole_float (inf s) q f p l b lo hi = absurd p
whole_float (fin true m e) q f p l b lo hi = absurd p
whole_float (fin false zero e) q f p l b lo hi = absurd (lt_irrefl 0 (ltb→lt 0 0 p))
whole_float (fin false (suc m) (pos k)) q f p l b lo hi = record { k = suc m * 2 ^ k; value = (refl, refl); least = omega (arith, lo); most = omega (arith, hi); low = l; high = b }
whole_float (fin false (suc m) (negsuc k)) q f p l b lo hi = absurd (no_fraction (suc m) q k (written false m (negsuc k) f).digits l lo)

whole_round : (X D : ℕ) → 0 < D → 2 ^ 52 * D ≤ X → X < (2 ^ 53 - 1) * D → Whole (round binary64 false X D) (X / D)
whole_round X D p lo hi =
    let q = X / D in
    let t = round binary64 false X D in
    let a : 2 ^ 52 ≤ q = (le-div_iff_mul-le p).1 lo in
    let b : q < 2 ^ 53 - 1 = (div-lt_iff_lt-mul p).1 hi in
    let c : q * D ≤ X = div-mul-le_self X D in
    let d : X < (q + 1) * D = (div-lt_iff_lt-mul p).0 (omega arith) in
    let v = round_whole binary64 false q (omega arith) in
    let w = round_whole binary64 false (q + 1) (omega arith) in
    let x = positive_of_value (round binary64 false q 1) q 1 v (omega arith) in
    let y = positive_of_value (round binary64 false (q + 1) 1) (q + 1) 1 w (omega arith) in
    let l = round_mono binary64 q 1 X D (lit< tt) p (omega arith) in
    let u = round_mono binary64 X D (q + 1) 1 p (lit< tt) (omega arith) in
    let z = between (round binary64 false q 1) t (round binary64 false (q + 1) 1) x y l u in
    whole_float t q (round-fits binary64 false X D) z a b
    (values_of_le (round binary64 false q 1) t q 1 (num t) (den t) x z v (own_value t z) l)
    (values_of_le t (round binary64 false (q + 1) 1) (num t) (den t) (q + 1) 1 z y (own_value t z) w u)

-- ---- whole numbers, one taken off another
minus_up : (a b : ℕ) → b ≤ a → minus a b ≡ pos (a - b)
minus_up a b h = ap (λ (t : Bool). cond t (pos (a - b)) (negsuc (b - suc a))) (le-leb b a h)

minus_down : (a b : ℕ) → a < b → minus a b ≡ negsuc (b - suc a)
minus_down a b h = ap (λ (t : Bool). cond t (pos (a - b)) (negsuc (b - suc a))) (lt-leb b a h)

-- the fraction of a whole number over the product of two denominators
over : (n u d e : ℕ) (a : ℕ) → n * u * 1 ≡ a * d → n * u * e ≡ a * (d * e)
over n u d e a h = ap (λ (x : ℕ). x * e) (sym (mul-one (n * u)) ∙ h) ∙ mul_assoc a d e

taken_off : (x y : Float) (a b : ℕ) → HasValue x false a 1 → HasValue y true b 1 → x ⊕ y ≡ float (minus a b)
unfolding add sum of_int
taken_off nan y a b h k = absurd h
taken_off (inf s) y a b h k = absurd h
taken_off (fin true m e) y a b h k = absurd (true≢false h.0)
taken_off (fin false m e) nan a b h k = absurd k
taken_off (fin false m e) (inf s) a b h k = absurd k
taken_off (fin false m e) (fin false n d) a b h k = absurd (true≢false (sym k.0))
taken_off (fin false m e) (fin true n d) a b h k = go (dec_lt a b)
  where
    A : ℕ
    A = m * up e * down d

    B : ℕ
    B = n * up d * down e

    C : ℕ
    C = down e * down d

    c : 0 < C
    c = mul-pos (down_pos e) (down_pos d)

    ea : A ≡ a * C
    ea = over m (up e) (down e) (down d) a h.1

    eb : B ≡ b * C
    eb = over n (up d) (down d) (down e) b k.1 ∙ ap (λ (x : ℕ). b * x) (mul_comm (down d) (down e))

    go : Dec (a < b) → cond (ltb A B) (round binary64 true (B - A) C) (round binary64 (false && ltb B A) (A - B) C) ≡ float (minus a b)
    go (yes l) =
        let r = suc (b - suc a) in
        let m : A < B = subst (λ (x : ℕ). x < B) (sym ea) (subst (λ (x : ℕ). a * C < x) (sym eb) (mul-lt-mul_of_pos_right l c)) in
        let s : b * C ≡ a * C + r * C = ap (λ (x : ℕ). x * C) (omega arith) ∙ add-mul a r C in
        ap (λ (t : Bool). cond t (round binary64 true (B - A) C) (round binary64 (false && ltb B A) (A - B) C)) (lt-ltb A B m)
        ∙ round_same binary64 true (B - A) C r 1 c (lit< tt) (omega (arith, ea, eb, s))
        ∙ ap float (sym (minus_down a b l))
    go (no f) =
        let r = a - b in
        let m : B ≤ A = subst (λ (x : ℕ). x ≤ A) (sym eb) (subst (λ (x : ℕ). b * C ≤ x) (sym ea) (mul-le-mul_right C (omega arith))) in
        let s : a * C ≡ b * C + r * C = ap (λ (x : ℕ). x * C) (omega arith) ∙ add-mul b r C in
        ap (λ (t : Bool). cond t (round binary64 true (B - A) C) (round binary64 (false && ltb B A) (A - B) C)) (le-ltb A B m)
        ∙ round_same binary64 false (A - B) C r 1 c (lit< tt) (omega (arith, ea, eb, s))
        ∙ ap float (sym (minus_up a b (omega arith)))

-- two negative whole numbers
added_below : (x y : Float) (a b : ℕ) → HasValue x true a 1 → HasValue y true b 1 → x ⊕ y ≡ round binary64 true (a + b) 1
unfolding add sum
added_below nan y a b h k = absurd h
added_below (inf s) y a b h k = absurd h
added_below (fin false m e) y a b h k = absurd (true≢false (sym h.0))
added_below (fin true m e) nan a b h k = absurd k
added_below (fin true m e) (inf s) a b h k = absurd k
added_below (fin true m e) (fin false n d) a b h k = absurd (true≢false (sym k.0))
added_below (fin true m e) (fin true n d) a b h k =
    let C = down e * down d in
    let ea : m * up e * down d ≡ a * C = over m (up e) (down e) (down d) a h.1 in
    let eb : n * up d * down e ≡ b * C = over n (up d) (down d) (down e) b k.1 ∙ ap (λ (x : ℕ). b * x) (mul_comm (down d) (down e)) in
    round_same binary64 true (m * up e * down d + n * up d * down e) C (a + b) 1 (mul-pos (down_pos e) (down_pos d)) (lit< tt) (omega (arith, ea, eb, add-mul a b C))

shift_value : HasValue (neg shift_f) true shift 1
unfolding neg of_bits
shift_value = (refl, refl)

one_value : HasValue (neg f1) true 1 1
unfolding neg of_bits
one_value = (refl, refl)

-- one less
one_less : (q : ℕ) → q < 2 ^ 53 → float (minus (suc q) shift) ⊖ f1 ≡ float (minus q shift)
unfolding sub of_int
one_less q h = go (dec_lt (suc q) shift)
  where
    go : Dec (suc q < shift) → float (minus (suc q) shift) ⊕ neg f1 ≡ float (minus q shift)
    go (yes l) =
        let r = suc (shift - suc (suc q)) in
        let n : r + 1 ≡ suc (shift - suc q) = omega arith in
        ap (λ (z : ℤ). float z ⊕ neg f1) (minus_down (suc q) shift l)
        ∙ added_below (round binary64 true r 1) (neg f1) r 1 (round_whole binary64 true r (omega arith)) one_value
        ∙ ap (λ (x : ℕ). round binary64 true x 1) n
        ∙ ap float (sym (minus_down q shift (omega arith)))
    go (no f) =
        let r = suc q - shift in
        ap (λ (z : ℤ). float z ⊕ neg f1) (minus_up (suc q) shift (omega arith))
        ∙ taken_off (round binary64 false r 1) (neg f1) r 1 (round_whole binary64 false r (omega arith)) one_value
        ∙ ap float (same (dec_lt q shift))
      where
        same : Dec (q < shift) → minus (suc q - shift) 1 ≡ minus q shift
        same (yes l) = (let n : 1 - suc (suc q - shift) ≡ shift - suc q = omega arith in minus_down (suc q - shift) 1 (omega arith) ∙ ap negsuc n) ∙ sym (minus_down q shift l)
        same (no g) = (let n : suc q - shift - 1 ≡ q - shift = omega arith in minus_up (suc q - shift) 1 (omega arith) ∙ ap pos n) ∙ sym (minus_up q shift (omega arith))

-- ---- the floor by the sum's whole part
quadrant_minus : (q : ℕ) → q % 4 ≡ quadrant (minus q shift)
quadrant_minus q = go (dec_lt q shift)
  where
    go : Dec (q < shift) → q % 4 ≡ quadrant (minus q shift)
    go (yes l) = (let n : q % 4 ≡ 3 - (shift - suc q) % 4 = omega arith in n) ∙ ap quadrant (sym (minus_down q shift l))
    go (no f) = (let n : q % 4 ≡ (q - shift) % 4 = omega arith in n) ∙ ap quadrant (sym (minus_up q shift (omega arith)))

negated : (c : ℕ) → c ≤ shift → minus (shift - c) shift ≡ neg_ℤ (pos c)
negated zero h = minus_up (shift - 0) shift (omega arith) ∙ (let n : shift - 0 - shift ≡ 0 = omega arith in ap pos n)
negated (suc n) h = minus_down (shift - suc n) shift (omega arith) ∙ (let k : shift - suc (shift - suc n) ≡ n = omega arith in ap negsuc k)

floor_moved : (s : Bool) (m : ℕ) (e : ℤ) → m * up e ≤ 1048577 * down e → minus (moved s (m * up e) (down e) / down e) shift ≡ floor (fin s m e)
unfolding floor
floor_moved false m e h =
    let Y = m * up e in
    let D = down e in
    let c : shift * D + Y ≡ Y + shift * D = omega arith in
    let q : (shift * D + Y) / D ≡ Y / D + shift = ap (λ (x : ℕ). x / D) c ∙ add-mul-div_right Y shift (down_pos e) in
    minus_up ((shift * D + Y) / D) shift (omega (arith, q)) ∙ (let n : (shift * D + Y) / D - shift ≡ Y / D = omega (arith, q) in ap pos n)
floor_moved true m e h =
    let Y = m * up e in
    let D = down e in
    let c = (Y + D - 1) / D in
    let p = down_pos e in
    let few : c < 1048579 = (div-lt_iff_lt-mul p).1 (omega (arith, p)) in
    let low : c * D ≤ Y + D - 1 = div-mul-le_self (Y + D - 1) D in
    let high : Y + D - 1 < (c + 1) * D = (div-lt_iff_lt-mul p).0 (omega arith) in
    let w = shift - c in
    let all : shift * D ≡ w * D + c * D = (let n : shift ≡ w + c = omega (arith, few) in ap (λ (x : ℕ). x * D) n) ∙ add-mul w c D in
    let q : (shift * D - Y) / D ≡ w = div-eq_of_lt-le D (omega (arith, all, high, add-mul c 1 D, one-mul D)) (omega (arith, all, low, p, add-mul w 1 D, one-mul D)) in
    ap (λ (x : ℕ). minus x shift) q ∙ negated c (omega (arith, few))

-- ---- the comparison
same_test : (a b c d : ℕ) → (a < b → c < d) → (c < d → a < b) → ltb a b ≡ ltb c d
same_test a b c d f g = go (dec_lt a b) (dec_lt c d)
  where
    go : Dec (a < b) → Dec (c < d) → ltb a b ≡ ltb c d
    go (yes l) k = lt-ltb a b l ∙ sym (lt-ltb c d (f l))
    go (no n) (yes k) = absurd (n (g k))
    go (no n) (no k) = le-ltb a b (omega arith) ∙ sym (le-ltb c d (omega arith))

scaled_test : (a b c : ℕ) → 0 < c → ltb (a * c) (b * c) ≡ ltb a b
scaled_test a b c p = same_test (a * c) (b * c) a b (λ l. lt_of_mul-lt-mul_right c l) (λ l. mul-lt-mul_of_pos_right l p)

scaled_below : (s t : Bool) (a b c : ℕ) → 0 < c → below s (a * c) t (b * c) ≡ below s a t b
scaled_below false false a b c p = scaled_test a b c p
scaled_below false true a b c p = refl
scaled_below true false a b c p = ap (λ (x : ℕ). ltb 0 x) (sym (add-mul a b c)) ∙ ap (λ (x : ℕ). ltb x ((a + b) * c)) (sym (zero-mul c)) ∙ scaled_test 0 (a + b) c p
scaled_below true true a b c p = scaled_test b a c p

lt_is : (s t : Bool) (m : ℕ) (e : ℤ) (v : Float) (r : ℕ) → HasValue v t r 1 → lt (fin s m e) v ≡ below s (m * up e) t (r * down e)
unfolding lt
lt_is s t m e nan r h = absurd h
lt_is s t m e (inf u) r h = absurd h
lt_is s t m e (fin u n d) r h =
    ap (λ (x : Bool). below s (m * up e * down d) x (n * up d * down e)) h.0
    ∙ ap (λ (x : ℕ). below s (m * up e * down d) t x) (ap (λ (x : ℕ). x * down e) (sym (mul-one (n * up d)) ∙ h.1) ∙ mul_right_comm r (down d) (down e))
    ∙ scaled_below s t (m * up e) (r * down e) (down d) (down_pos d)

-- Y < r * D or not, as S + Y < K or not, and so on: S is shift * D, K is k * D and R is r * D
ahead : (s : Bool) (Y S K R : ℕ) → Y ≤ S → 0 < S → K ≡ S + R → below s Y false R ≡ ltb (cond s (S - Y) (S + Y)) K
ahead false Y S K R h p n = same_test Y R (S + Y) K (λ l. omega arith) (λ l. omega arith)
ahead true Y S K R h p n = same_test 0 (Y + R) (S - Y) K (λ l. omega arith) (λ l. omega arith)

behind : (s : Bool) (Y S K R : ℕ) → Y ≤ S → S ≡ K + R → below s Y true R ≡ ltb (cond s (S - Y) (S + Y)) K
behind false Y S K R h n = sym (le-ltb (S + Y) K (omega arith))
behind true Y S K R h n = same_test R Y (S - Y) K (λ l. omega arith) (λ l. omega arith)

told : (s : Bool) (m : ℕ) (e : ℤ) (k : ℕ) → m * up e ≤ 1048577 * down e → k ≤ 2 ^ 53 → lt (fin s m e) (float (minus k shift)) ≡ ltb (moved s (m * up e) (down e)) (k * down e)
unfolding of_int
told s m e k h b = go (dec_lt k shift)
  where
    go : Dec (k < shift) → lt (fin s m e) (float (minus k shift)) ≡ ltb (moved s (m * up e) (down e)) (k * down e)
    go (yes l) =
        let r = suc (shift - suc k) in
        let n : shift * down e ≡ k * down e + r * down e = (let c : shift ≡ k + r = omega arith in ap (λ (x : ℕ). x * down e) c) ∙ add-mul k r (down e) in
        ap (λ (z : ℤ). lt (fin s m e) (float z)) (minus_down k shift l)
        ∙ lt_is s true m e (round binary64 true r 1) r (round_whole binary64 true r (omega arith))
        ∙ behind s (m * up e) (shift * down e) (k * down e) (r * down e) (omega (arith, h)) n
    go (no f) =
        let r = k - shift in
        let n : k * down e ≡ shift * down e + r * down e = (let c : k ≡ shift + r = omega arith in ap (λ (x : ℕ). x * down e) c) ∙ add-mul shift r (down e) in
        ap (λ (z : ℤ). lt (fin s m e) (float z)) (minus_up k shift (omega arith))
        ∙ lt_is s false m e (round binary64 false r 1) r (round_whole binary64 false r (omega arith))
        ∙ ahead s (m * up e) (shift * down e) (k * down e) (r * down e) (omega (arith, h)) (omega (arith, down_pos e)) n

-- ---- what the code finds, from y and the sum t
pub record Found (y t : Float) : Type 0 where
  pub number : T (not (is_nan t))
  pub upper : lt y (t ⊖ shift_f) ≡ true → (t ⊖ shift_f ⊖ f1 ≡ float (floor y)) × ((to_bits binary64 t % 4 + 3) % 4 ≡ quadrant (floor y))
  pub lower : lt y (t ⊖ shift_f) ≡ false → (t ⊖ shift_f ≡ float (floor y)) × (to_bits binary64 t % 4 ≡ quadrant (floor y))

from_sum : (s : Bool) (m : ℕ) (e : ℤ) (t : Float) → m * up e ≤ 1048577 * down e → Whole t (moved s (m * up e) (down e) / down e) → Found (fin s m e) t
unfolding sub
from_sum s m e t h w =
    let D = down e in
    let X = moved s (m * up e) D in
    let q = X / D in
    let k = w.k in
    let near : t ⊖ shift_f ≡ float (minus k shift) = taken_off t (neg shift_f) k shift w.value shift_value in
    let test : lt (fin s m e) (t ⊖ shift_f) ≡ ltb X (k * D) = ap (lt (fin s m e)) near ∙ told s m e k h (omega (arith, w.most, w.high)) in
    let v : HasValue t false (k * 2 ^ 1074) (2 ^ 1074) = subst (λ (c : ℕ). HasValue t false (k * 2 ^ 1074) c) (one-mul (2 ^ 1074)) (rescaled t false k 1 (2 ^ 1074) w.value) in
    let digits : to_bits binary64 t ≡ 1074 * 2 ^ 52 + k = to_bits_value t k 1074 v (omega (arith, w.least, w.low)) (omega (arith, w.most, w.high)) in
    let floors = floor_moved s m e h in
    record {
      number = no_nan_of t false k 1 w.value;
      upper = λ l.
          let a : X < k * D = ltb-true X (k * D) (sym test ∙ l) in
          let b : q < k = (div-lt_iff_lt-mul (down_pos e)).1 a in
          let n : k ≡ suc q = omega (arith, b, w.most) in
          let d : (to_bits binary64 t % 4 + 3) % 4 ≡ q % 4 = omega (arith, digits, n) in
          (ap (λ (x : Float). x ⊖ f1) (near ∙ ap (λ (x : ℕ). float (minus x shift)) n) ∙ one_less q (omega (arith, w.high)) ∙ ap float floors, d ∙ quadrant_minus q ∙ ap quadrant floors);
      lower = λ l.
          let a : k * D ≤ X = ltb-false X (k * D) (sym test ∙ l) in
          let b : k ≤ q = (le-div_iff_mul-le (down_pos e)).1 a in
          let n : k ≡ q = omega (arith, b, w.least) in
          let d : to_bits binary64 t % 4 ≡ q % 4 = omega (arith, digits, n) in
          (near ∙ ap (λ (x : ℕ). float (minus x shift)) n ∙ ap float floors, d ∙ quadrant_minus q ∙ ap quadrant floors);
    }

found_finite : (s : Bool) (m : ℕ) (e : ℤ) → m * up e ≤ 1048577 * down e → Found (fin s m e) (fin s m e ⊕ shift_f)
found_finite s m e h =
    subst (Found (fin s m e)) (sym (sum_moved s m e h))
    (from_sum s m e (round binary64 false (moved s (m * up e) (down e)) (down e)) h (whole_round (moved s (m * up e) (down e)) (down e) (down_pos e) (low s) (high s)))
  where
    low : (s : Bool) → 2 ^ 52 * down e ≤ moved s (m * up e) (down e)
    low false = omega (arith, h)
    low true = omega (arith, h)

    high : (s : Bool) → moved s (m * up e) (down e) < (2 ^ 53 - 1) * down e
    high false = omega (arith, h, down_pos e)
    high true = omega (arith, h, down_pos e)

pub found : (y : Float) → Within 1048577 y → Found y (y ⊕ shift_f)
found nan w = absurd w
found (inf s) w = absurd w
found (fin s m e) w = found_finite s m e w
