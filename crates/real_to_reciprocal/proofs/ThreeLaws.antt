-- Laws of three arrays that are written side by side: how a loop extends what it has written.
use mathlib.Core.Path.{◌≡◌, refl, sym, ap, ◌∙◌, subst}
use mathlib.Core.Logic.{◌≢◌}
use mathlib.Core.List.{List}
use Prim.Native.Nat.{ℕ, zero, suc, ◌+◌, ◌*◌, ◌<◌, ◌≤◌}
use native.Mathlib.Omega.{arith}
use native.Mathlib.Decide.{dec_lt}
use lib.ListN.{length, length-set}
use borrow.Author.Count.{below_more}
use lib.Ieee.{Float}
use Rattle.phonon.specs.declared.Complex.{Complex}
use Rattle.phonon.specs.Number.{at}
use Rattle.planes.specs.Split.{split, put_split}
use Rattle.planes.proofs.SplitLaws.{complex_eq, put_other, put_same}
use Rattle.planes.proofs.Products.{row_le, row_same, place_same}
use Rattle.real_to_reciprocal.specs.Three.{array_at, WroteThree}

pub three_none : (l : List Float) (a d m : ℕ) (f : ℕ → ℕ → Complex) → WroteThree l l a d m m f
three_none l a d m f = record { size = refl; inside = λ x k h p q. absurd (omega arith); stays = λ x k h p. refl; before = λ j p. refl; after = λ j p. refl }

-- number n of array x is stored: what else of the arrays is read is as before
module _ (l : List Float) (a d n x : ℕ) (z : Complex) (h : n < d) (room : array_at a d x + d + n < length l) where
  abbrev l₁ : List Float
  l₁ = put_split l (array_at a d x) d n z

  -- place i of array y, unless it is one of the two that were written
  apart : (y i j : ℕ) → i < 2 * d → j < 2 * d → (y ≡ x → i ≢ j) → array_at a d y + i ≢ array_at a d x + j
  apart y i j p q r e =
      let s : y * (2 * d) + i ≡ x * (2 * d) + j = omega arith in
      r (row_same (2 * d) y x p q s) (place_same (2 * d) y x p q s)

  place : (y i : ℕ) → i < 2 * d → (y ≡ x → i ≢ n) → (y ≡ x → i ≢ d + n) → at l₁ (array_at a d y + i) ≡ at l (array_at a d y + i)
  place y i p r s =
      put_other l (array_at a d x) d n z h room (array_at a d y + i) (apart y i n p (omega arith) r)
      (λ (e : array_at a d y + i ≡ array_at a d x + d + n). apart y i (d + n) p (omega arith) s (omega arith))

  -- both parts of number k
  number : (y k : ℕ) → k < d → (y ≡ x → k ≢ n) → split l₁ (array_at a d y) d k ≡ split l (array_at a d y) d k
  number y k p r =
      let e : array_at a d y + d + k ≡ array_at a d y + (d + k) = omega arith in
      complex_eq (place y k (omega arith) r (λ q e. omega arith))
      (ap (at l₁) e ∙ place y (d + k) (omega arith) (λ q e. omega arith) (λ q c. r q (omega arith)) ∙ ap (at l) (sym e))

  pub other_number : (y k : ℕ) → k < n → split l₁ (array_at a d y) d k ≡ split l (array_at a d y) d k
  other_number y k p = number y k (omega arith) (λ q e. omega arith)

  pub other_array : (y : ℕ) → y ≢ x → split l₁ (array_at a d y) d n ≡ split l (array_at a d y) d n
  other_array y p = number y n h (λ q. absurd (p q))

  pub that_number : split l₁ (array_at a d x) d n ≡ z
  that_number = put_same l (array_at a d x) d n z h room

  pub before_all : (j : ℕ) → j < a → at l₁ j ≡ at l j
  before_all j p = put_other l (array_at a d x) d n z h room j (λ (e : j ≡ array_at a d x + n). omega arith) (λ (e : j ≡ array_at a d x + d + n). omega arith)

  pub after_all : x < 3 → (j : ℕ) → array_at a d 3 ≤ j → at l₁ j ≡ at l j
  after_all q j p =
      let r = row_le (2 * d) q in
      put_other l (array_at a d x) d n z h room j (λ (e : j ≡ array_at a d x + n). omega (arith, r)) (λ (e : j ≡ array_at a d x + d + n). omega (arith, r))

-- number n of each array is stored, one array after the other
module _ (l : List Float) (a d n : ℕ) (u v w : Complex) (h : n < d) (room : array_at a d 3 ≤ length l) where
  abbrev one : List Float
  one = put_split l (array_at a d 0) d n u

  abbrev two : List Float
  two = put_split one (array_at a d 1) d n v

  abbrev pub three : List Float
  three = put_split two (array_at a d 2) d n w

  room₀ : array_at a d 0 + d + n < length l
  room₀ = omega arith

  room₁ : array_at a d 1 + d + n < length one
  room₁ = let e : length one ≡ length l = simp length-set refl in omega arith

  room₂ : array_at a d 2 + d + n < length two
  room₂ = let e : length two ≡ length l = simp length-set refl in omega arith

  pub three_size : length three ≡ length l
  three_size = simp length-set refl

  pub three_other : (y k : ℕ) → k < n → split three (array_at a d y) d k ≡ split l (array_at a d y) d k
  three_other y k p = other_number two a d n 2 w h room₂ y k p ∙ other_number one a d n 1 v h room₁ y k p ∙ other_number l a d n 0 u h room₀ y k p

  pub three_same : (f : ℕ → ℕ → Complex) → u ≡ f 0 n → v ≡ f 1 n → w ≡ f 2 n → (y : ℕ) → y < 3 → split three (array_at a d y) d n ≡ f y n
  three_same f p q r zero b =
      other_array two a d n 2 w h room₂ 0 (λ (e : 0 ≡ 2). omega arith) ∙ other_array one a d n 1 v h room₁ 0 (λ (e : 0 ≡ 1). omega arith) ∙ that_number l a d n 0 u h room₀ ∙ p
  three_same f p q r (suc zero) b = other_array two a d n 2 w h room₂ 1 (λ (e : 1 ≡ 2). omega arith) ∙ that_number one a d n 1 v h room₁ ∙ q
  three_same f p q r (suc (suc zero)) b = that_number two a d n 2 w h room₂ ∙ r
  three_same f p q r (suc (suc (suc y))) b = absurd (omega arith)

  pub three_before : (j : ℕ) → j < a → at three j ≡ at l j
  three_before j p = before_all two a d n 2 w h room₂ j p ∙ before_all one a d n 1 v h room₁ j p ∙ before_all l a d n 0 u h room₀ j p

  pub three_after : (j : ℕ) → array_at a d 3 ≤ j → at three j ≡ at l j
  three_after j p = after_all two a d n 2 w h room₂ (omega arith) j p ∙ after_all one a d n 1 v h room₁ (omega arith) j p ∙ after_all l a d n 0 u h room₀ (omega arith) j p

-- one number more of each array
pub three_step : {l l₁ l₂ l₃ l₄ : List Float} {a d m n : ℕ} {f : ℕ → ℕ → Complex} (u v w : Complex) {p₀ p₁ p₂ : ℕ} → WroteThree l l₁ a d m n f → m ≤ n → n < d → array_at a d 3 ≤ length l
    → p₀ ≡ array_at a d 0 → p₁ ≡ array_at a d 1 → p₂ ≡ array_at a d 2 → l₂ ≡ put_split l₁ p₀ d n u → l₃ ≡ put_split l₂ p₁ d n v → l₄ ≡ put_split l₃ p₂ d n w
    → u ≡ f 0 n → v ≡ f 1 n → w ≡ f 2 n → WroteThree l l₄ a d m (n + 1) f
three_step {l} {l₁} {l₂} {l₃} {l₄} {a} {d} {m} {n} {f} u v w t mn nd room e₀ e₁ e₂ s₁ s₂ s₃ eu ev ew =
    subst (λ (last : List Float). WroteThree l last a d m (n + 1) f) (sym whole)
    (record {
      size = three_size l₁ a d n u v w nd room₁ ∙ t.size;
      inside = λ y k b p q. below_more (λ k. m ≤ k → split last (array_at a d y) d k ≡ f y k) n (λ k r s. three_other l₁ a d n u v w nd room₁ y k r ∙ t.inside y k b s r) (λ s. three_same l₁ a d n u v w nd room₁ f eu ev ew y b) k q p;
      stays = λ y k b p. three_other l₁ a d n u v w nd room₁ y k (omega arith) ∙ t.stays y k b p;
      before = λ j p. three_before l₁ a d n u v w nd room₁ j p ∙ t.before j p;
      after = λ j p. three_after l₁ a d n u v w nd room₁ j p ∙ t.after j p;
    })
  where
    room₁ : array_at a d 3 ≤ length l₁
    room₁ = omega (arith, t.size)

    last : List Float
    last = three l₁ a d n u v w nd room₁

    whole : l₄ ≡ last
    whole = s₃ ∙ rw (s₂, s₁, e₀, e₁, e₂) refl

-- numbers from m to n, and then those from n to r
pub three_join : {l l₁ l₂ : List Float} {a d m n r : ℕ} {f : ℕ → ℕ → Complex} → WroteThree l l₁ a d m n f → WroteThree l₁ l₂ a d n r f → m ≤ n → WroteThree l l₂ a d m r f
three_join {n = n} w v mn =
    record {
      size = v.size ∙ w.size;
      inside = λ x k b p q. either k (dec_lt k n) (λ s. v.stays x k b s ∙ w.inside x k b p s) (λ s. v.inside x k b s q);
      stays = λ x k b p. v.stays x k b (omega arith) ∙ w.stays x k b p;
      before = λ j p. v.before j p ∙ w.before j p;
      after = λ j p. v.after j p ∙ w.after j p;
    }
  where
    either : {A : Type 0} (k : ℕ) → Dec (k < n) → (k < n → A) → (n ≤ k → A) → A
    either k (yes s) below above = below s
    either k (no s) below above = above (omega arith)
