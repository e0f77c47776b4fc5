-- Laws of the tests, over any test: the first number that fails one, and the test of all numbers below an end, tell the same.
use Prim.Native.Nat.{ℕ, zero, suc, ◌+◌, ◌-◌, ◌*◌, ◌≤◌, ◌<◌}
use mathlib.Core.Bool.{Bool, true, false, not, ◌&&◌, cond, true≢false, and-true, and_assoc}
use mathlib.Core.Path.{◌≡◌, refl, sym, ap, ◌∙◌}
use mathlib.Core.List.{List, []}
use native.Mathlib.Nat.{sub-zero, add-zero, suc-mul}
use native.Mathlib.Decide.{dec_lt}
use native.Mathlib.Numerals.{add-one}
use native.Mathlib.Omega.{arith}
use lib.Ieee.{Float, nan, inf, fin, is_nan, add, lt}
use lib.ListN.{length, get_or, set, drop}
use Rattle.std.specs.Prelude.{◌/◌, ◌%◌, Option, None, Some, MatchOption, is_some, option_map}
use Rattle.std.specs.Float.{float_is_finite, is_sign_negative}
use Rattle.std.specs.List.{list_all, range_with_len, AllWithin, HoldsAt}
use Rattle.std.specs.Simd.{first_chunks}
use Rattle.std.proofs.lemmas.List.{get_or-set_same, get_or-set_other, get_or-take, get_or-drop, length-set}
use Rattle.phonon.specs.Number.{◌⊕◌, at, int}
use lib.IntN.{ℤ, pos}
use lib.Dec.{leb, eqb}
use borrow.Author.Tests.{leb-true, leb-false, eq-eqb, ne_eqb, not-true, not-false}
use Rattle.phonon.specs.Tests.{every_below, first_from, finite, sign_bit}
use Rattle.phonon.proofs.Accepted.{and_both, every_next}
use Rattle.checks.specs.Scan.{Passed, SumsTell, first_failing}
pub use Rattle.phonon.proofs.Accepted.{every_none, every_at, every_bad}

pub and_left : (a b : Bool) → (a && b) ≡ true → a ≡ true
and_left a b e = (and_both a b e).0

pub and_right : (a b : Bool) → (a && b) ≡ true → b ≡ true
and_right a b e = (and_both a b e).1

-- ---- between the two infinities lie the finite numbers, and no NaN

pub above_bottom : (x : Float) → lt (inf true) x ≡ true → lt x (inf false) ≡ finite x
unfolding lt finite
above_bottom nan e = refl
above_bottom (inf true) e = sym e
above_bottom (inf false) e = refl
above_bottom (fin s m d) e = refl

pub at_bottom : (x : Float) → lt (inf true) x ≡ false → false ≡ finite x
unfolding lt finite
at_bottom nan e = refl
at_bottom (inf s) e = refl
at_bottom (fin s m d) e = sym e

-- ---- what a test that the code branches on told

pub told_good : {a b : Bool} → a ≡ b → not a ≡ false → b ≡ true
told_good e h = sym e ∙ not-false _ h

pub told_bad : {a b : Bool} → a ≡ b → not a ≡ true → b ≡ false
told_bad e h = sym e ∙ not-true _ h

-- two orders that follow from one another have one test
leb_same_by : (a b c d : ℕ) → (a ≤ b → c ≤ d) → (c ≤ d → a ≤ b) → (t u : Bool) → leb a b ≡ t → leb c d ≡ u → leb a b ≡ leb c d
leb_same_by a b c d f g true true p q = p ∙ sym q
leb_same_by a b c d f g true false p q = absurd (omega (arith, f (leb-true a b p), leb-false c d q))
leb_same_by a b c d f g false true p q = absurd (omega (arith, g (leb-true c d q), leb-false a b p))
leb_same_by a b c d f g false false p q = p ∙ sym q

pub leb_same : (a b c d : ℕ) → (a ≤ b → c ≤ d) → (c ≤ d → a ≤ b) → leb a b ≡ leb c d
leb_same a b c d f g = leb_same_by a b c d f g (leb a b) (leb c d) refl refl

-- ---- the test of every number below an end

-- one test more, of results that are known
pub every_step : (p : ℕ → Bool) (k : ℕ) {a b : Bool} → a ≡ every_below p k → b ≡ p k → (a && b) ≡ every_below p (k + 1)
unfolding every_below
every_step p k u v = rw (add-one, u, v) refl

-- the same test at each number
every_same : (p q : ℕ → Bool) → ((k : ℕ) → p k ≡ q k) → (n : ℕ) → every_below p n ≡ every_below q n
unfolding every_below
every_same p q e zero = refl
every_same p q e (suc n) = rw (every_same p q e n, e n) refl

-- the first test stands apart
every_front : (p : ℕ → Bool) (n : ℕ) → every_below p (suc n) ≡ p 0 && every_below (λ k. p (suc k)) n
unfolding every_below
every_front p zero = sym (and-true (p 0))
every_front p (suc n) = rw (every_front p n) (and_assoc (p 0) (every_below (λ k. p (suc k)) n) (p (suc n)))

-- `all` over the numbers below an end
all_from : (p : ℕ → Bool) (a n : ℕ) → list_all p (range_with_len a n) ≡ every_below (λ k. p (a + k)) n
unfolding every_below
all_from p a zero = refl
all_from p a (suc n) =
    rw (all_from p (a + 1) n, every_front (λ k. p (a + k)) n, add-zero)
    (ap (λ (b : Bool). p a && b) (every_same (λ k. p (a + 1 + k)) (λ k. p (a + suc k)) (λ k. let e : a + 1 + k ≡ a + suc k = omega arith in rw e refl) n))

pub all_below : (p : ℕ → Bool) (n : ℕ) → list_all p (range_with_len 0 n) ≡ every_below p n
all_below p n = all_from p 0 n ∙ every_same (λ k. p (0 + k)) p (λ k. let e : 0 + k ≡ k = omega arith in rw e refl) n

-- ---- the first number at which a test fails

-- nothing is passed yet
pub passed_none : (p : ℕ → Bool) (n : ℕ) → Passed p n 0
passed_none p n = record { inside = omega arith; first = rw sub-zero refl }

-- i is passed, is the first that fails, or is the end
pub passed_more : {p : ℕ → Bool} {n i : ℕ} → Passed p n i → i < n → p i ≡ true → Passed p n (i + 1)
unfolding first_from
passed_more {p} {n} {i} w h e =
    let left : n - i ≡ suc (n - (i + 1)) = omega arith in
    let step : first_from p (n - (i + 1)) (i + 1) ≡ first_from p (n - i) i = rw (left, add-one) (rw e refl) in
    record { inside = omega arith; first = step ∙ w.first }

pub first_here : {p : ℕ → Bool} {n i : ℕ} → Passed p n i → i < n → p i ≡ false → i ≡ first_from p n 0
unfolding first_from
first_here {p} {n} {i} w h e =
    let left : n - i ≡ suc (n - (i + 1)) = omega arith in
    let here : first_from p (n - i) i ≡ i = rw left (rw e refl) in
    sym here ∙ w.first

pub first_none : {p : ℕ → Bool} {n i : ℕ} → Passed p n i → n ≤ i → i ≡ first_from p n 0
unfolding first_from
first_none {p} {n} {i} w h =
    let none : n - i ≡ 0 = omega arith in
    let here : first_from p (n - i) i ≡ i = rw none refl in
    sym here ∙ w.first

-- the same at an equal number
pub passed_same : {p : ℕ → Bool} {n a b : ℕ} → a ≡ b → Passed p n a → Passed p n b
passed_same e w = rw (sym e) w

-- m entries more
pub passed_each : {p : ℕ → Bool} {n i : ℕ} (m : ℕ) → Passed p n i → i + m ≤ n → ((t : ℕ) → t < m → p (i + t) ≡ true) → Passed p n (i + m)
passed_each {p} {n} {i} zero w h e = let z : i ≡ i + 0 = omega arith in passed_same z w
passed_each {p} {n} {i} (suc m) w h e =
    let before = passed_each m w (omega arith) (λ t l. e t (omega arith)) in
    let z : i + m + 1 ≡ i + suc m = omega arith in
    passed_same z (passed_more before (omega arith) (e m (omega arith)))

pub passed_many : {p : ℕ → Bool} {n i : ℕ} (m : ℕ) → Passed p n i → i + m ≤ n → every_below (λ t. p (i + t)) m ≡ true → Passed p n (i + m)
passed_many {p} {n} {i} m w h e = passed_each m w h (λ t. every_at (λ k. p (i + k)) m t e)

-- the first of the n numbers from k on is the end exactly where none of them fails, given that none below k does
first_end : (p : ℕ → Bool) (n k : ℕ) → every_below p k ≡ true → eqb (first_from p n k) (n + k) ≡ every_below p (n + k)
unfolding first_from
first_end p zero k h = let e : 0 + k ≡ k = omega arith in rw e (rw h (eq-eqb k k refl))
first_end p (suc n) k h = by (p k) refl (λ e. first_end p n (suc k) (rw add-one at (every_next p k h e)))
  where
    by : (b : Bool) → p k ≡ b → (p k ≡ true → eqb (first_from p n (suc k)) (n + suc k) ≡ every_below p (n + suc k))
        → eqb (cond (p k) (first_from p n (suc k)) k) (suc n + k) ≡ every_below p (suc n + k)
    by true e go = let m : suc n + k ≡ n + suc k = omega arith in rw (e, m) (go e)
    by false e go = rw e (ne_eqb k (suc n + k) (λ (z : k ≡ suc n + k). omega arith) ∙ sym (every_bad p (suc n + k) k (omega arith) e))

-- a scan that comes to the end has passed every entry
pub first_every : (p : ℕ → Bool) (n : ℕ) → eqb (first_from p n 0) n ≡ every_below p n
first_every p n = let e : n + 0 ≡ n = omega arith in rw e at (first_end p n 0 (every_none p))

-- ---- its place, if there is one

pub failing_here : {p : ℕ → Bool} {n i : ℕ} → Passed p n i → i < n → p i ≡ false → Some i ≡ first_failing p n
unfolding first_failing
failing_here {p} {n} {i} w h e = rw (← first_here w h e, ne_eqb i n (λ (z : i ≡ n). omega arith)) refl

pub failing_none : {p : ℕ → Bool} {n : ℕ} → Passed p n n → None ≡ first_failing p n
unfolding first_failing
failing_none {p} {n} w = rw (← first_none w (omega arith), eq-eqb n n refl) refl

told_none : (b : Bool) (i : ℕ) (r : Bool) → is_some (cond b None (Some i)) ≡ not r → r ≡ b
told_none true i true e = refl
told_none true i false e = absurd (true≢false (sym e))
told_none false i true e = absurd (true≢false e)
told_none false i false e = refl

-- a scan that finds none has passed every entry
pub none_failing : (p : ℕ → Bool) (n : ℕ) {o : Option ℕ} {r : Bool} → o ≡ first_failing p n → is_some o ≡ not r → r ≡ every_below p n
unfolding first_failing
none_failing p n {r = r} e h = told_none (eqb (first_from p n 0) n) (first_from p n 0) r (rw e at h) ∙ first_every p n

-- what a search of a list for an item that fails the test q tells
abbrev pub Passes : {A : Type 0} → (A → Bool) → A → Type 0
Passes q y = q y ≡ true

abbrev pub Fails : {A : Type 0} → (A → Bool) → A → Type 0
Fails q y = q y ≡ false

abbrev pub Searched : {A : Type 0} → (A → Bool) → List A → Option ℕ → Type 0
Searched q ys o = MatchOption o (AllWithin (Passes q) ys 0 (length ys)) (λ m. (m < length ys) × HoldsAt (Fails q) ys m × AllWithin (Passes q) ys 0 m)

-- a search of the items from number i on, where those before have passed
pub searched_from : {A : Type 0} (q : A → Bool) (ys : List A) (d : A) {p : ℕ → Bool} {n i : ℕ} → Passed p n i → i + length ys ≡ n → ((t : ℕ) → t < length ys → p (i + t) ≡ q (get_or ys t d))
    → (o : Option ℕ) → Searched q ys o → option_map (λ m. i + m) o ≡ first_failing p n
searched_from q ys d {p} {n} {i} w l e None h = failing_none (passed_same l (passed_each (length ys) w (omega (arith, l)) (λ t k. e t k ∙ h t d (omega arith) k)))
searched_from q ys d {p} {n} {i} w l e (Some m) h =
    failing_here (passed_each m w (omega (arith, h.0, l)) (λ t k. e t (omega (arith, h.0, k)) ∙ h.2 t d (omega arith) k)) (omega (arith, h.0, l)) (e m h.0 ∙ h.1 d)

option_same : (o : Option ℕ) → option_map (λ m. 0 + m) o ≡ o
option_same None = refl
option_same (Some m) = let e : 0 + m ≡ m = omega arith in rw e refl

-- a search of all items
pub searched : {A : Type 0} (q : A → Bool) (ys : List A) (d : A) {p : ℕ → Bool} {n : ℕ} → length ys ≡ n → ((t : ℕ) → t < length ys → p t ≡ q (get_or ys t d))
    → (o : Option ℕ) → Searched q ys o → o ≡ first_failing p n
searched q ys d {p} {n} l e o h = sym (option_same o) ∙ searched_from q ys d (passed_none p n) (let z : 0 + length ys ≡ n = omega (arith, l) in z) (λ t k. let z : 0 + t ≡ t = omega arith in rw z (e t k)) o h

-- ---- floats

-- the library's test of a finite number
pub same_finite : (x : Float) → float_is_finite x ≡ finite x
unfolding float_is_finite finite
same_finite nan = refl
same_finite (inf s) = refl
same_finite (fin s m d) = refl

-- the library's sign bit, which it tells of no NaN
pub same_sign : (x : Float) → is_sign_negative x ≡ sign_bit x
unfolding is_sign_negative sign_bit
same_sign nan = refl
same_sign (inf s) = refl
same_sign (fin s m d) = refl

pub nan_sign : (x : Float) → is_nan x ≡ true → false ≡ sign_bit x
unfolding is_nan sign_bit
nan_sign nan e = refl
nan_sign (inf s) e = absurd (true≢false (sym e))
nan_sign (fin s m d) e = absurd (true≢false (sym e))

-- ---- sums

-- a finite sum has finite parts
pub sum_parts : (x y : Float) → finite (x ⊕ y) ≡ true → (finite x ≡ true) × (finite y ≡ true)
unfolding finite add
sum_parts nan y e = absurd (true≢false (sym e))
sum_parts (inf s) nan e = absurd (true≢false (sym e))
sum_parts (inf true) (inf true) e = absurd (true≢false (sym e))
sum_parts (inf true) (inf false) e = absurd (true≢false (sym e))
sum_parts (inf false) (inf true) e = absurd (true≢false (sym e))
sum_parts (inf false) (inf false) e = absurd (true≢false (sym e))
sum_parts (inf s) (fin t n d) e = absurd (true≢false (sym e))
sum_parts (fin s m x) nan e = absurd (true≢false (sym e))
sum_parts (fin s m x) (inf t) e = absurd (true≢false (sym e))
sum_parts (fin s m x) (fin t n d) e = (refl, refl)

-- sums of the n columns of k rows, those before column t of one row more
pub record Told (rows : List (List Float)) (n k t : ℕ) (sums : List Float) : Type 0 where
  pub size : length sums ≡ n
  pub before : (i j : ℕ) → i < k → j < n → finite (at sums j) ≡ true → finite (at (get_or rows i []) j) ≡ true
  pub here : (j : ℕ) → j < t → finite (at sums j) ≡ true → finite (at (get_or rows k []) j) ≡ true

pub told_none_yet : (rows : List (List Float)) (n : ℕ) (sums : List Float) → length sums ≡ n → Told rows n 0 0 sums
told_none_yet rows n sums s = record { size = s; before = λ i j l m e. absurd (omega arith); here = λ j l e. absurd (omega arith) }

same_or_not : {T : Type 0} (j t : ℕ) → (j ≡ t → T) → ((j ≡ t → ⊥) → T) → T
same_or_not {T} j t f g = go (dec_lt j t) (dec_lt t j)
  where
    go : Dec (j < t) → Dec (t < j) → T
    go (yes m) b = g (λ e. omega arith)
    go (no m) (yes n) = g (λ e. omega arith)
    go (no m) (no n) = f (omega arith)

-- one entry more
pub told_entry : {rows : List (List Float)} {n k t : ℕ} {sums : List Float} → Told rows n k t sums → t < n → Told rows n k (t + 1) (set sums t (at sums t ⊕ at (get_or rows k []) t))
told_entry {rows} {n} {k} {t} {sums} w h =
    let y = at sums t ⊕ at (get_or rows k []) t in
    let new : at (set sums t y) t ≡ y = get_or-set_same sums t y nan (omega (arith, w.size)) in
    let old : (j : ℕ) → (j ≡ t → ⊥) → at (set sums t y) j ≡ at sums j = λ j n. get_or-set_other sums t j y nan n in
    let parts : finite y ≡ true → (finite (at sums t) ≡ true) × (finite (at (get_or rows k []) t) ≡ true) = sum_parts (at sums t) (at (get_or rows k []) t) in
    record {
      size = length-set sums t y ∙ w.size;
      before = λ i j l m e. same_or_not j t
          (λ q. w.before i j l m (rw (sym q) at (parts (rw new at (rw q at e))).0))
          (λ n. w.before i j l m (rw (old j n) at e));
      here = λ j l e. same_or_not j t
          (λ q. rw q (parts (rw new at (rw q at e))).1)
          (λ n. w.here j (omega arith) (rw (old j n) at e));
    }

-- a whole row
pub told_row : {rows : List (List Float)} {n k : ℕ} {sums : List Float} → Told rows n k n sums → Told rows n (k + 1) 0 sums
told_row {rows} {n} {k} {sums} w =
    record {
      size = w.size;
      before = λ i j l m e. same_or_not i k (λ q. rw q (w.here j m e)) (λ n. w.before i j (omega arith) m e);
      here = λ j l e. absurd (omega arith);
    }

pub told_all : {rows : List (List Float)} {n : ℕ} {sums : List Float} → Told rows n (length rows) 0 sums → SumsTell rows n sums
told_all w = record { size = w.size; parts = w.before }

-- ---- entries n by n

pub chunk_at : {A : Type 0} (n c : ℕ) (xs : List A) (i j : ℕ) (d : A) → i < c → j < n → get_or (get_or (first_chunks n c xs) i []) j d ≡ get_or xs (i * n + j) d
chunk_at n zero xs i j d h k = absurd (omega arith)
chunk_at n (suc c) xs zero j d h k = let e : zero * n + j ≡ j = omega arith in rw e (get_or-take n xs j d k)
chunk_at n (suc c) xs (suc i) j d h k =
    let s : suc i * n ≡ i * n + n = suc-mul i n in
    let e : suc i * n + j ≡ n + (i * n + j) = omega (arith, s) in
    rw e (chunk_at n c (drop n xs) i j d (omega arith) k ∙ get_or-drop n xs (i * n + j) d)

-- entries that were summed twice: by sixteen, and the sums by four
module _ (s : List Float) (rows quarters : List (List Float)) (sums last : List Float)
    (e : rows ≡ first_chunks 16 (length s / 16) s) (l : length rows ≡ length s / 16) (w : SumsTell rows 16 sums)
    (f : quarters ≡ first_chunks 4 (length sums / 4) sums) (m : length quarters ≡ length sums / 4) (v : SumsTell quarters 4 last) where
  -- the last four sums are finite, and so are the sixteen
  sum_finite : ((j : ℕ) → j < 4 → finite (at last j) ≡ true) → (t : ℕ) → t < 16 → finite (at sums t) ≡ true
  sum_finite h t k =
      let a : t / 4 < length sums / 4 = omega (arith, k, w.size) in
      let b : t / 4 < length quarters = omega (arith, k, m, w.size) in
      let c : t % 4 < 4 = omega arith in
      let p : t / 4 * 4 + t % 4 ≡ t = omega arith in
      rw (f, chunk_at 4 (length sums / 4) sums (t / 4) (t % 4) nan a c, p) at (v.parts (t / 4) (t % 4) b c (h (t % 4) c))

  entry_finite : ((j : ℕ) → j < 4 → finite (at last j) ≡ true) → (t : ℕ) → t < 16 * length rows → finite (at s (0 + t)) ≡ true
  entry_finite h t k =
      let a : t / 16 < length s / 16 = omega (arith, l, k) in
      let b : t / 16 < length rows = omega (arith, l, k) in
      let c : t % 16 < 16 = omega arith in
      let p : t / 16 * 16 + t % 16 ≡ 0 + t = omega arith in
      rw (e, chunk_at 16 (length s / 16) s (t / 16) (t % 16) nan a c, p) at (w.parts (t / 16) (t % 16) b c (sum_finite h (t % 16) c))

  abbrev pub joined : Float
  joined = (at last 0 ⊕ at last 2) ⊕ (at last 1 ⊕ at last 3)

  four : finite joined ≡ true → (j : ℕ) → j < 4 → finite (at last j) ≡ true
  four h zero k = (sum_parts (at last 0) (at last 2) (sum_parts (at last 0 ⊕ at last 2) (at last 1 ⊕ at last 3) h).0).0
  four h (suc zero) k = (sum_parts (at last 1) (at last 3) (sum_parts (at last 0 ⊕ at last 2) (at last 1 ⊕ at last 3) h).1).0
  four h (suc (suc zero)) k = (sum_parts (at last 0) (at last 2) (sum_parts (at last 0 ⊕ at last 2) (at last 1 ⊕ at last 3) h).0).1
  four h (suc (suc (suc zero))) k = (sum_parts (at last 1) (at last 3) (sum_parts (at last 0 ⊕ at last 2) (at last 1 ⊕ at last 3) h).1).1
  four h (suc (suc (suc (suc j)))) k = absurd (omega arith)

  pub rows_passed : finite joined ≡ true → Passed (λ k. finite (at s k)) (length s) (16 * length rows)
  rows_passed h =
      let z : 0 + 16 * length rows ≡ 16 * length rows = omega arith in
      passed_same z (passed_each (16 * length rows) (passed_none _ _) (omega (arith, l)) (entry_finite (four h)))

-- entries of two numbers
pub pair_at : (l : List ℤ) (rows : List (List ℤ)) → rows ≡ first_chunks 2 (length l / 2) l → length rows ≡ length l / 2 → (n j : ℕ) → n < length rows → j < 2 → int (get_or rows n []) j ≡ int l (2 * n + j)
pair_at l rows e s n j h k =
    let p : n * 2 + j ≡ 2 * n + j = omega arith in
    rw (e, ← p) (chunk_at 2 (length l / 2) l n j (pos 0) (omega (arith, s, h)) k)
