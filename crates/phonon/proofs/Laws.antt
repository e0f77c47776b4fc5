-- Laws of folds and tables, and of two tests.
use Prim.Native.Nat.{ℕ, zero, suc, ◌+◌, ◌-◌, ◌*◌, ◌/◌, ◌%◌, ◌<◌, ◌≤◌}
use native.Mathlib.Nat.{add-zero, zero-mul, suc-mul, mul-le-mul_right}
use native.Mathlib.Omega.{arith}
use native.Mathlib.Numerals.{add-one}
use native.Mathlib.Decide.{dec_lt}
use mathlib.Core.Path.{◌≡◌, refl, sym, ap, ap₂, ◌∙◌}
use mathlib.Core.Bool.{Bool, true, false, ◌&&◌}
use mathlib.Core.List.{List, [], ◌∷◌, ◌++◌}
use lib.Arith.{digits_lt, digits_div, digits_mod}
use lib.ListN.{get_or, length, take, drop, length-append, length-drop}
use lib.Seq.{drop-append-le, take-append-le, drop_at, take_all, get_or-take, get_or-drop, length-take-le}
use Rattle.phonon.specs.declared.Complex.{Complex}
use Rattle.phonon.specs.Number.{fold, table_from, table}
use Rattle.phonon.specs.Common.{cnan, cat, pairs, ctable}

pub fold_ext : {A : Type 0} (n : ℕ) (s : A) (f g : ℕ → A → A) → ((i : ℕ) → i < n → (a : A) → f i a ≡ g i a) → fold n s f ≡ fold n s g
unfolding fold
fold_ext zero s f g h = refl
fold_ext (suc n) s f g h =
    h n (omega arith) (fold n s f) ∙ ap (g n) (fold_ext n s f g (λ i l. h i (omega arith)))

table_from_ext : {A : Type 0} (i n : ℕ) (f g : ℕ → A) → ((k : ℕ) → k < n → f (i + k) ≡ g (i + k)) → table_from i n f ≡ table_from i n g
unfolding table_from
table_from_ext i zero f g h = refl
table_from_ext {A} i (suc n) f g h =
    let e : i + 0 ≡ i = omega arith in
    let p : f i ≡ g i = rw e at (h 0 (omega arith)) in
    let q : table_from (suc i) n f ≡ table_from (suc i) n g =
    table_from_ext (suc i) n f g (λ k l. let e : i + suc k ≡ suc i + k = omega arith in rw e at (h (suc k) (omega arith))) in
    cc

pub table_ext : {A : Type 0} (n : ℕ) (f g : ℕ → A) → ((k : ℕ) → k < n → f k ≡ g k) → table n f ≡ table n g
unfolding table
table_ext n f g h = table_from_ext 0 n f g (λ k l. let e : 0 + k ≡ k = omega arith in rw e (h k l))

pub ctable_ext : (n : ℕ) (f g : ℕ → Complex) → ((k : ℕ) → k < n → f k ≡ g k) → ctable n f ≡ ctable n g
unfolding ctable
ctable_ext n f g h = ap pairs (table_ext n f g h)

table_from_at : {A : Type 0} (i n k : ℕ) (f : ℕ → A) (d : A) → k < n → get_or (table_from i n f) k d ≡ f (i + k)
unfolding table_from
table_from_at i zero k f d l = absurd (let z : ◌≡◌ {A = ℕ} 0 1 = omega arith in omega arith)
table_from_at i (suc n) zero f d l = ap f (sym (add-zero i))
table_from_at i (suc n) (suc k) f d l =
    let e : i + suc k ≡ suc i + k = omega arith in rw e (table_from_at (suc i) n k f d (omega arith))

-- entry k of a table is its function at k
pub table_at : {A : Type 0} (n k : ℕ) (f : ℕ → A) (d : A) → k < n → get_or (table n f) k d ≡ f k
unfolding table
table_at n k f d l = let e : 0 + k ≡ k = omega arith in rw e at (table_from_at 0 n k f d l)

table_from_length : {A : Type 0} (i n : ℕ) (f : ℕ → A) → length (table_from i n f) ≡ n
unfolding table_from
table_from_length i zero f = refl
table_from_length i (suc n) f = ap suc (table_from_length (suc i) n f)

pub table_length : {A : Type 0} (n : ℕ) (f : ℕ → A) → length (table n f) ≡ n
unfolding table
table_length n f = table_from_length 0 n f

pairs_at : (l : List Complex) (k : ℕ) → cat (pairs l) k ≡ get_or l k cnan
unfolding pairs cat
pairs_at [] k = refl
pairs_at (c ∷ l) zero = refl
pairs_at (c ∷ l) (suc k) =
    let e : 2 * suc k ≡ suc (suc (2 * k)) = omega arith in
    let h : 2 * suc k + 1 ≡ suc (suc (2 * k + 1)) = omega arith in
    rw (h, e) (pairs_at l k)

-- entry k of a table of complex numbers
pub ctable_at : (n k : ℕ) (f : ℕ → Complex) → k < n → cat (ctable n f) k ≡ f k
unfolding ctable
ctable_at n k f l = pairs_at (table n f) k ∙ table_at n k f cnan l

-- ---- the numbers of the slots

module _ (B : ℕ) {k : ℕ} (l : k < B) where
  pub div_of : (a : ℕ) → (a * B + k) / B ≡ a
  div_of a = digits_div a l

  pub mod_of : (a : ℕ) → (a * B + k) % B ≡ k
  mod_of a = digits_mod a l

-- entry y of row x, of n rows with B entries each
pub pair_lt : {n B x y : ℕ} → x < n → y < B → x * B + y < n * B
pair_lt p q = digits_lt p q

-- ---- n entries of a list, from entry off on

pub part_at : {A : Type 0} (l : List A) (off n k : ℕ) (d : A) → k < n → get_or (take n (drop off l)) k d ≡ get_or l (off + k) d
part_at l off n k d h = get_or-take n (drop off l) k d h ∙ get_or-drop off l k d

pub part_size : {A : Type 0} (l : List A) (off n : ℕ) → off + n ≤ length l → length (take n (drop off l)) ≡ n
part_size l off n h = length-take-le n (drop off l) (omega (arith, length-drop off l))

-- ---- lists joined from parts of one length

module _ {A : Type 0} (n : ℕ) (f : ℕ → List A) (sized : (t : ℕ) → length (f t) ≡ n) where
  abbrev joined : ℕ → List A
  joined m = fold m [] (λ t out. out ++ f t)

  joined_length : (m : ℕ) → length (joined m) ≡ m * n
  unfolding fold
  joined_length zero = sym (zero-mul n)
  joined_length (suc m) =
      length-append (joined m) (f m) ∙ ap₂ (λ (x y : ℕ). x + y) (joined_length m) (sized m) ∙ sym (suc-mul m n)

  -- part t is what was put there
  pub joined_part : (m t : ℕ) → t < m → take n (drop (t * n) (joined m)) ≡ f t
  unfolding fold
  joined_part zero t l = absurd (omega arith)
  joined_part (suc m) t l = go (dec_lt t m) (joined_part m t)
    where
      go : Dec (t < m) → (t < m → take n (drop (t * n) (joined m)) ≡ f t) → take n (drop (t * n) (joined m ++ f m)) ≡ f t
      go (yes h) ih =
          let e : length (joined m) ≡ m * n = joined_length m in
          let g : suc t * n ≤ m * n = mul-le-mul_right n h in
          let k : suc t * n ≡ t * n + n = suc-mul t n in
          let d : length (drop (t * n) (joined m)) ≡ length (joined m) - t * n = length-drop (t * n) (joined m) in
          ap (take n) (drop-append-le (t * n) (joined m) (f m) (omega arith))
          ∙ take-append-le n (drop (t * n) (joined m)) (f m) (omega arith) ∙ ih h
      go (no h) ih =
          let e : t ≡ m = omega arith in
          let k : length (joined m) ≡ t * n = rw e (joined_length m) in
          let a : length (f m) ≤ n = omega (arith, sized m) in
          ap (take n) (drop_at (joined m) (f m) (t * n) k) ∙ take_all n (f m) a ∙ ap f (sym e)

-- ---- turns of a fold

-- a fold in two parts
pub fold_add : {A : Type 0} (m n : ℕ) (s : A) (f : ℕ → A → A) → fold (m + n) s f ≡ fold n (fold m s f) (λ i. f (m + i))
unfolding fold
fold_add m zero s f = let e : m + 0 ≡ m = omega arith in rw e
fold_add m (suc n) s f =
    let e : m + suc n ≡ suc (m + n) = omega arith in rw e (ap (f (m + n)) (fold_add m n s f))

-- one turn of a loop that counts up
pub fold_step : {A : Type 0} (n : ℕ) (s : A) (f : ℕ → A → A) → fold (n + 1) s f ≡ f n (fold n s f)
unfolding fold
fold_step n s f = rw add-one

-- ---- a table grows at its end, as a loop fills it

table_from_snoc : {A : Type 0} (i n : ℕ) (f : ℕ → A) → table_from i (suc n) f ≡ table_from i n f ++ (f (i + n) ∷ [])
unfolding table_from
table_from_snoc i zero f = let e : i + 0 ≡ i = omega arith in rw e
table_from_snoc i (suc n) f =
    let e : i + suc n ≡ suc i + n = omega arith in
    let h = table_from_snoc (suc i) n f in rw e (ap (λ l. f i ∷ l) h)

pub table_snoc : {A : Type 0} (n : ℕ) (f : ℕ → A) → table (n + 1) f ≡ table n f ++ (f n ∷ [])
unfolding table
table_snoc n f = let e : 0 + n ≡ n = omega arith in rw (add-one n) (table_from_snoc 0 n f ∙ rw e)

-- ---- tests that both hold

pub and_both : (a b : Bool) → a && b ≡ true → (a ≡ true) × (b ≡ true)
and_both true b e = (refl, e)
and_both false b e = absurd (let z : ◌≡◌ {A = ℕ} 0 1 = cc in omega arith)

pub both_and : {a b : Bool} → a ≡ true → b ≡ true → a && b ≡ true
both_and p q = rw (p, q)
