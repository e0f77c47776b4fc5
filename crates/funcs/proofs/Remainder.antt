-- What is left of x after k times ln 2 is from -1/2 to 1, and not negative where k is 0. Assumes nothing.
use mathlib.Core.Path.{◌≡◌, refl, ap, ◌∙◌, sym, subst}
use mathlib.Core.Bool.{true, false, true≢false}
use Prim.Native.Nat.{ℕ, zero, suc, ◌+◌, ◌-◌, ◌*◌, ◌/◌, ◌^◌, ◌≤◌, ◌<◌}
use native.Mathlib.Nat.{le_trans, le_of_eq, lt_of_lt_of_le, lt_irrefl, mul-pos, mul-one, one-mul, zero-mul, le-div_iff_mul-le, lt_of_not-le, mul_assoc, mul_comm, mul_right_comm, mul-lt-mul_of_pos_right, mul-le-mul_right, le_of_mul-le-mul_right, add-mul, div-lt_iff_lt-mul, min-le_left, le-min, suc-mul}
use native.Mathlib.Decide.{dec_le}
use native.Mathlib.Omega.{arith}
use lib.Pow.{pow_pos}
use lib.IntN.{ℤ, pos, negsuc}
use lib.Dec.{T, ltb, lit<, lit≤}
use borrow.Author.Tests.{le-ltb}
use lib.Ieee.{Float, nan, inf, fin, binary64, up, down, lt, le, eq, neg, round, sum, add, sub, mul, of_bits, of_int, to_unsigned}
use lib.Ieee.Exact.{HasValue, round_exact}
use lib.Ieee.Back.{round_whole}
use lib.Ieee.Fits.{down_pos}
use lib.Ieee.Order.{round_mono}
use lib.Ieee.Scale.{round_same}
use Rattle.phonon.specs.Number.{f0, whole}
use Rattle.phonon.specs.Exp.{count, remainder}
use Rattle.floats.specs.Sign.{Unsigned}
use Rattle.phonon.proofs.Order.{at_most}
use Rattle.floats.proofs.Compare.{pick_no}
use Rattle.funcs.proofs.Range.{limit, log2e, exp_whole, limited}
use Rattle.floats.proofs.Bounds.{inside_sum, inside_difference, Inside, inside_positive, inside_round}
use Rattle.floats.proofs.Unsigned.{unsigned_round}
use Rattle.floats.proofs.SignedBounds.{Lower, lower_inside, lower_difference, Plus, plus_round}

-- ---- the whole part of a rounded number, between two others
floor_half : (v w : Float) (j : ℕ) → HasValue w false (2 * j + 1) 2 → T (le v w) → to_unsigned 64 v ≤ j
unfolding le lt eq to_unsigned
floor_half nan w j h l = absurd l
floor_half (inf true) w j h l = omega arith
floor_half (inf false) nan j h l = absurd h
floor_half (inf false) (inf t) j h l = absurd h
floor_half (inf false) (fin t n d) j h l = absurd l
floor_half (fin true n d) w j h l = omega arith
floor_half (fin false n d) nan j h l = absurd h
floor_half (fin false n d) (inf t) j h l = absurd h
floor_half (fin false n d) (fin true m e) j h l = absurd (true≢false h.0)
floor_half (fin false n d) (fin false m e) j h l =
    let c : n * up d * down e ≤ m * up e * down d = at_most _ _ true l in
    let b : n * up d * 2 ≤ (2 * j + 1) * down d =
    le_of_mul-le-mul_right (le_trans (le_of_eq (mul_right_comm (n * up d) 2 (down e))) (le_trans (mul-le-mul_right 2 c) (le_of_eq (mul_right_comm (m * up e) (down d) 2 ∙ ap (λ (x : ℕ). x * down d) h.1 ∙ mul_right_comm (2 * j + 1) (down e) (down d))))) (down_pos e) in
    let f : (2 * j + 1) * down d ≡ 2 * (j * down d) + down d = add-mul (2 * j) 1 (down d) ∙ ap (λ (x : ℕ). x + 1 * down d) (mul_assoc 2 j (down d)) ∙ ap (λ (x : ℕ). 2 * (j * down d) + x) (one-mul (down d)) in
    let q : n * up d / down d < j + 1 = (div-lt_iff_lt-mul (down_pos d)).1 (omega (arith, add-mul j 1 (down d), one-mul (down d), down_pos d)) in
    le_trans (min-le_left _ _) (omega arith)

floor_ge : (v w : Float) (j K : ℕ) → Plus K v → j < 2 ^ 64 → HasValue w false j 1 → T (le w v) → j ≤ to_unsigned 64 v
unfolding le lt eq to_unsigned
floor_ge nan w j K p s h l = absurd p
floor_ge (inf t) w j K p s h l = absurd p
floor_ge (fin true n d) w j K p s h l = absurd p
floor_ge (fin false n d) nan j K p s h l = absurd h
floor_ge (fin false n d) (inf t) j K p s h l = absurd h
floor_ge (fin false n d) (fin true m e) j K p s h l = absurd (true≢false h.0)
floor_ge (fin false n d) (fin false m e) j K p s h l =
    let c : m * up e * down d ≤ n * up d * down e = at_most _ _ true l in
    let v : m * up e ≡ j * down e = sym (mul-one (m * up e)) ∙ h.1 in
    let b : j * down d ≤ n * up d = le_of_mul-le-mul_right (le_trans (le_of_eq (mul_right_comm j (down d) (down e) ∙ ap (λ (x : ℕ). x * down d) (sym v))) c) (down_pos e) in
    le-min ((le-div_iff_mul-le (down_pos d)).1 b) (omega arith)

-- ---- x = a / c between 0 and 709, and k the whole part of x * log2 e
-- The constants are Ln / 2 ^ 51, log2 e, and Hi / 2 ^ 32 and Lo / 2 ^ 84, which give ln 2.
abbrev Ln : ℕ
Ln = 3248660424278399

abbrev Hi : ℕ
Hi = 2977044471

abbrev Lo : ℕ
Lo = 3691024475790907

product_is : (m : ℕ) (e : ℤ) → mul binary64 (fin false m e) log2e ≡ round binary64 false (m * up e * Ln) (down e * 2 ^ 51)
unfolding mul of_bits
product_is m e = refl

under_next : (a c k : ℕ) → 0 < c → a ≤ 709 * c → k < 1023 → k ≡ to_unsigned 64 (round binary64 false (a * Ln) (c * 2 ^ 51)) → a * Ln < (k + 1) * (c * 2 ^ 51)
under_next a c k p h s is =
    lt_of_not-le (λ (f : (k + 1) * (c * 2 ^ 51) ≤ a * Ln).
    let pos' : 0 < c * 2 ^ 51 = omega arith in
    let p = plus_round (a * Ln) (c * 2 ^ 51) 1023 pos' (lit≤ tt) (omega arith) in
    let w = round_whole binary64 false (k + 1) (omega arith) in
    let l = round_mono binary64 (k + 1) 1 (a * Ln) (c * 2 ^ 51) (lit< tt) pos' (omega arith) in
    let g = floor_ge (round binary64 false (a * Ln) (c * 2 ^ 51)) (round binary64 false (k + 1) 1) (k + 1) 1023 p (omega arith) w l in
    lt_irrefl 0 (omega arith))

half_value : (j : ℕ) → j < 1023 → HasValue (round binary64 false (2 * j + 1) 2) false (2 * j + 1) 2
half_value j s =
    let small : 2 * j + 1 < 2 ^ 53 = omega arith in
    round_exact binary64 false (2 * j + 1) 2 (2 * j + 1) 1073 (lit< tt) small (lt_of_lt_of_le (mul-lt-mul_of_pos_right small (pow_pos 1073)) (lit≤ tt)) (sym (mul_assoc (2 * j + 1) (2 ^ 1073) 2))

above_half : (a c j : ℕ) → 0 < c → j < 1022 → suc j ≡ to_unsigned 64 (round binary64 false (a * Ln) (c * 2 ^ 51)) → (2 * j + 1) * (c * 2 ^ 51) ≤ a * Ln * 2
above_half a c j p s is = go (dec_le ((2 * j + 1) * (c * 2 ^ 51)) (a * Ln * 2))
  where
    go : Dec ((2 * j + 1) * (c * 2 ^ 51) ≤ a * Ln * 2) → (2 * j + 1) * (c * 2 ^ 51) ≤ a * Ln * 2
    go (yes y) = y
    go (no f) =
        let pos' : 0 < c * 2 ^ 51 = omega arith in
        let g = floor_half (round binary64 false (a * Ln) (c * 2 ^ 51)) (round binary64 false (2 * j + 1) 2) j (half_value j (omega arith)) (round_mono binary64 (a * Ln) (c * 2 ^ 51) (2 * j + 1) 2 pos' (lit< tt) (omega arith)) in
        absurd (lt_irrefl 0 (omega arith))

-- x less k times Hi / 2 ^ 32 is at most 3/4, and at least -3/8: first with rounder numbers, then exactly
record Near (a c k : ℕ) : Type 0 where
  pub upper : 4 * 2 ^ 32 * a ≤ 3 * 2 ^ 32 * c + 4 * Hi * (k * c)
  pub lower : 8 * Hi * (k * c) ≤ 8 * 2 ^ 32 * a + 3 * 2 ^ 32 * c

rounder_up : (a X : ℕ) → a * Ln < X * 2 ^ 51 → a * 100000 ≤ 69315 * X
rounder_up a X h = omega arith

rounder_down : (a c y : ℕ) → 2 * y * 2 ^ 51 ≤ a * Ln * 2 + c * 2 ^ 51 → y * 1000000 ≤ 1442696 * a + 500000 * c
rounder_down a c y h = omega arith

upper_of : (a c y : ℕ) → y ≤ 1022 * c → a * 100000 ≤ 69315 * (y + c) → 4 * 2 ^ 32 * a ≤ 3 * 2 ^ 32 * c + 4 * Hi * y
upper_of a c y f h = omega arith

lower_of : (a c y : ℕ) → a ≤ 709 * c → y * 1000000 ≤ 1442696 * a + 500000 * c → 8 * Hi * y ≤ 8 * 2 ^ 32 * a + 3 * 2 ^ 32 * c
lower_of a c y f h = omega arith

near_upper : (a c k : ℕ) → k < 1023 → a * Ln < (k + 1) * (c * 2 ^ 51) → 4 * 2 ^ 32 * a ≤ 3 * 2 ^ 32 * c + 4 * Hi * (k * c)
near_upper a c k s h =
    let e : (k + 1) * (c * 2 ^ 51) ≡ (k * c + c) * 2 ^ 51 = sym (mul_assoc (k + 1) c (2 ^ 51)) ∙ ap (λ (x : ℕ). x * 2 ^ 51) (add-mul k 1 c ∙ ap (λ (x : ℕ). k * c + x) (one-mul c)) in
    upper_of a c (k * c) (mul-le-mul_right c (omega arith)) (rounder_up a (k * c + c) (lt_of_lt_of_le h (le_of_eq e)))

near_lower : (a c k : ℕ) → 0 < c → a ≤ 709 * c → k < 1023 → k ≡ to_unsigned 64 (round binary64 false (a * Ln) (c * 2 ^ 51)) → 8 * Hi * (k * c) ≤ 8 * 2 ^ 32 * a + 3 * 2 ^ 32 * c
near_lower a c zero p f s is = omega (arith, zero-mul c)
near_lower a c (suc j) p f s is =
    let X = c * 2 ^ 51 in
    let z = above_half a c j p (omega arith) is in
    let y : 2 * (suc j * c) * 2 ^ 51 ≡ 2 * (j * X + X) = mul_assoc 2 (suc j * c) (2 ^ 51) ∙ ap (λ (x : ℕ). 2 * x) (mul_assoc (suc j) c (2 ^ 51) ∙ suc-mul j X) in
    let w : (2 * j + 1) * X ≡ 2 * (j * X) + X = add-mul (2 * j) 1 X ∙ ap (λ (x : ℕ). x + 1 * X) (mul_assoc 2 j X) ∙ ap (λ (x : ℕ). 2 * (j * X) + x) (one-mul X) in
    lower_of a c (suc j * c) f (rounder_down a c (suc j * c) (omega arith))

near : (m : ℕ) (e : ℤ) → lt limit (fin false m e) ≡ false → le f0 (fin false m e) ≡ true → Near (m * up e) (down e) (count (fin false m e))
near m e h l =
    let k = count (fin false m e) in
    let s = exp_whole (fin false m e) h l in
    let is : k ≡ to_unsigned 64 (round binary64 false (m * up e * Ln) (down e * 2 ^ 51)) = ap (to_unsigned 64) (product_is m e) in
    record {
      upper = near_upper (m * up e) (down e) k s (under_next (m * up e) (down e) k (down_pos e) (limited m e h) s is);
      lower = near_lower (m * up e) (down e) k (down_pos e) (limited m e h) s is;
    }

-- ---- what is left of x
-- k times a constant N / 2 ^ j
times : (k N j : ℕ) → k ≤ 2 ^ 53 → mul binary64 (whole k) (fin false N (negsuc j)) ≡ round binary64 false (k * N) (2 ^ suc j)
unfolding of_int mul
times k N j h = go (round binary64 false k 1) (round_whole binary64 false k h)
  where
    go : (w : Float) → HasValue w false k 1 → mul binary64 w (fin false N (negsuc j)) ≡ round binary64 false (k * N) (2 ^ suc j)
    go nan v = absurd v
    go (inf s) v = absurd v
    go (fin true n d) v = absurd (true≢false v.0)
    go (fin false n d) v =
        let e : n * up d ≡ k * down d = sym (mul-one (n * up d)) ∙ v.1 in
        round_same binary64 false (n * up d * (N * 1)) (down d * 2 ^ suc j) (k * N) (2 ^ suc j) (mul-pos (down_pos d) (pow_pos (suc j))) (pow_pos (suc j))
        (ap (λ (x : ℕ). n * up d * x * 2 ^ suc j) (mul-one N) ∙ ap (λ (x : ℕ). x * N * 2 ^ suc j) e ∙ ap (λ (x : ℕ). x * 2 ^ suc j) (mul_right_comm k (down d) N) ∙ mul_assoc (k * N) (down d) (2 ^ suc j))

-- of which the first is exact, and the second at most 1/8
times_high : (k : ℕ) → k < 1023 → HasValue (mul binary64 (whole k) (fin false Hi (negsuc 31))) false (k * Hi) (2 ^ 32)
times_high k s =
    let small : k * Hi < 2 ^ 53 = omega arith in
    subst (λ (v : Float). HasValue v false (k * Hi) (2 ^ 32)) (sym (times k Hi 31 (omega arith)))
    (round_exact binary64 false (k * Hi) (2 ^ 32) (k * Hi) 1042 (lit< tt) small (lt_of_lt_of_le (mul-lt-mul_of_pos_right small (pow_pos 1042)) (lit≤ tt)) (sym (mul_assoc (k * Hi) (2 ^ 1042) (2 ^ 32))))

times_low : (k : ℕ) → k < 1023 → Plus 1 (mul binary64 (whole k) (fin false Lo (negsuc 83))) × Inside 1 8 (mul binary64 (whole k) (fin false Lo (negsuc 83)))
unfolding round
times_low k s =
    let e = sym (times k Lo 83 (omega arith)) in
    (subst (Plus 1) e (plus_round (k * Lo) (2 ^ 84) 1 (lit< tt) (lit≤ tt) (omega arith)), subst (Inside 1 8) e (inside_positive (k * Lo) (2 ^ 84) 1 8 (lit< tt) (lit< tt) (refl, refl) (omega arith)))

spread : (n x c q g M N : ℕ) → n * x ≤ M * c + N * q → n * (x * g) ≤ M * (c * g) + N * (q * g)
spread n x c q g M N h =
    le_trans (le_of_eq (sym (mul_assoc n x g))) (le_trans (mul-le-mul_right g h) (le_of_eq (add-mul (M * c) (N * q) g ∙ ap (λ (y : ℕ). y + N * q * g) (mul_assoc M c g) ∙ ap (λ (y : ℕ). M * (c * g) + y) (mul_assoc N q g))))

first_step : (m : ℕ) (e : ℤ) (k : ℕ) (u : Float) → HasValue u false (k * Hi) (2 ^ 32) → Near (m * up e) (down e) k
    → Inside 3 4 (sub binary64 (fin false m e) u) × Lower 3 8 (sub binary64 (fin false m e) u)
unfolding sub neg add round
first_step m e k nan v t = absurd v
first_step m e k (inf s) v t = absurd v
first_step m e k (fin true n d) v t = absurd (true≢false v.0)
first_step m e k (fin false n d) v t =
    let a = m * up e in
    let c = down e in
    let g = down d in
    let b = n * up d in
    let w : b * c * 2 ^ 32 ≡ Hi * (k * c * g) =
    mul_right_comm b c (2 ^ 32) ∙ ap (λ (x : ℕ). x * c) v.1 ∙ mul_right_comm (k * Hi) g c ∙ ap (λ (x : ℕ). x * c * g) (mul_comm k Hi) ∙ ap (λ (x : ℕ). x * g) (mul_assoc Hi k c) ∙ mul_assoc Hi (k * c) g in
    let x = spread (4 * 2 ^ 32) a c (k * c) g (3 * 2 ^ 32) (4 * Hi) t.upper in
    let y = spread (8 * Hi) (k * c) a c g (8 * 2 ^ 32) (3 * 2 ^ 32) t.lower in
    let p = mul-pos (down_pos e) (down_pos d) in
    (inside_difference (a * g) (b * c) (c * g) 3 4 p (lit< tt) (refl, refl) (omega arith) (omega arith), lower_difference (a * g) (b * c) (c * g) 3 8 p (lit< tt) (refl, refl) (omega arith))

-- the parts of a difference, over one denominator
over : (K L m : ℕ) (e d : ℤ) → m * up e * L ≤ K * down e → m * up e * down d * L ≤ K * (down e * down d)
over K L m e d h = le_trans (le_of_eq (mul_right_comm (m * up e) (down d) L)) (le_trans (mul-le-mul_right (down d) h) (le_of_eq (mul_assoc K (down e) (down d))))

second_step : (u v : Float) → Inside 3 4 v → Lower 3 8 v → Plus 1 u → Inside 1 8 u → Inside 1 1 (sub binary64 v u) × Lower 1 2 (sub binary64 v u)
unfolding sub neg add sum round
second_step nan v i h p k = absurd p
second_step (inf t) v i h p k = absurd p
second_step (fin true n d) v i h p k = absurd p
second_step (fin false n d) nan i h p k = absurd h
second_step (fin false n d) (inf s) i h p k = absurd i
second_step (fin false n d) (fin false m e) i h p k =
    let x = over 3 4 m e d i in
    let y : n * up d * down e * 8 ≤ 1 * (down e * down d) = le_trans (over 1 8 n d e k) (le_of_eq (ap (λ (z : ℕ). 1 * z) (mul_comm (down d) (down e)))) in
    let q = mul-pos (down_pos e) (down_pos d) in
    (inside_sum false true (m * up e * down d) (n * up d * down e) (down e * down d) 1 1 q (lit< tt) (refl, refl) (omega arith), lower_difference (m * up e * down d) (n * up d * down e) (down e * down d) 1 2 q (lit< tt) (refl, refl) (omega arith))
second_step (fin false n d) (fin true m e) i h p k =
    let x = over 3 8 m e d h in
    let y : n * up d * down e * 8 ≤ 1 * (down e * down d) = le_trans (over 1 8 n d e k) (le_of_eq (ap (λ (z : ℕ). 1 * z) (mul_comm (down d) (down e)))) in
    let q = mul-pos (down_pos e) (down_pos d) in
    let a = m * up e * down d + n * up d * down e in
    (inside_round true a (down e * down d) 1 1 q (lit< tt) (refl, refl) (omega arith), lower_inside 1 2 (round binary64 true a (down e * down d)) (inside_round true a (down e * down d) 1 2 q (lit< tt) (refl, refl) (omega arith)))

pub remainder_bounds : (m : ℕ) (e : ℤ) → lt limit (fin false m e) ≡ false → le f0 (fin false m e) ≡ true
    → Inside 1 1 (remainder (fin false m e) (whole (count (fin false m e)))) × Lower 1 2 (remainder (fin false m e) (whole (count (fin false m e))))
unfolding of_bits
remainder_bounds m e h l =
    let k = count (fin false m e) in
    let s = exp_whole (fin false m e) h l in
    let hi = mul binary64 (whole k) (fin false Hi (negsuc 31)) in
    let lo = mul binary64 (whole k) (fin false Lo (negsuc 83)) in
    let t = first_step m e k hi (times_high k s) (near m e h l) in
    second_step lo (sub binary64 (fin false m e) hi) t.0 t.1 (times_low k s).0 (times_low k s).1

-- ---- where k is 0
unsigned_less_zero : (v : Float) → Unsigned v → Unsigned (sub binary64 v (fin false 0 (pos 0)))
unfolding sub neg add sum
unsigned_less_zero nan p = p
unsigned_less_zero (inf true) p = p
unsigned_less_zero (inf false) p = tt
unsigned_less_zero (fin true m e) p = absurd p
unsigned_less_zero (fin false m e) p =
    subst Unsigned (sym (pick_no (ltb (m * up e * 1) (0 * 1 * down e)) (round binary64 true (0 * 1 * down e - m * up e * 1) (down e * 1)) (round binary64 false (m * up e * 1 - 0 * 1 * down e) (down e * 1)) (le-ltb (m * up e * 1) (0 * 1 * down e) (omega (arith, zero-mul (down e))))))
    (unsigned_round (m * up e * 1 - 0 * 1 * down e) (down e * 1))

pub unsigned_zero : (m : ℕ) (e : ℤ) → Unsigned (remainder (fin false m e) (whole 0))
unfolding of_bits of_int mul round
unsigned_zero m e = unsigned_less_zero (sub binary64 (fin false m e) (fin false 0 (pos 0))) (unsigned_less_zero (fin false m e) tt)
