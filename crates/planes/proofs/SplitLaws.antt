-- Laws of arrays in two planes: how a loop that writes one extends what it has written.
use mathlib.Core.Path.{◌≡◌, refl, sym, ap, ◌∙◌, subst}
use mathlib.Core.Logic.{◌≢◌}
use mathlib.Core.List.{List}
use Prim.Native.Nat.{ℕ, ◌+◌, ◌<◌, ◌≤◌}
use native.Mathlib.Omega.{arith}
use lib.ListN.{length, set, length-set}
use lib.Seq.{get_or-set_same, get_or-set_other}
use borrow.Author.Count.{below_more}
use lib.Ieee.{Float, nan}
use Rattle.phonon.specs.declared.Complex.{Complex}
use Rattle.phonon.specs.Number.{at}
use Rattle.planes.specs.Split.{split, put_split, WroteSplit}

pub complex_eq : {a b : Complex} → a.re ≡ b.re → a.im ≡ b.im → a ≡ b
complex_eq p q = λ i. record { re = p i; im = q i }

-- a store of number k
module _ (l : List Float) (off d k : ℕ) (z : Complex) (h : k < d) (room : off + d + k < length l) where
  abbrev l₂ : List Float
  l₂ = put_split l off d k z

  pub put_other : (j : ℕ) → j ≢ off + k → j ≢ off + d + k → at l₂ j ≡ at l j
  put_other j p q = get_or-set_other (set l (off + k) z.re) (off + d + k) j z.im nan q ∙ get_or-set_other l (off + k) j z.re nan p

  pub put_same : split l₂ off d k ≡ z
  put_same =
      complex_eq
      (get_or-set_other (set l (off + k) z.re) (off + d + k) (off + k) z.im nan (λ (e : off + k ≡ off + d + k). omega arith)
      ∙ get_or-set_same l (off + k) z.re nan (omega arith))
      (get_or-set_same (set l (off + k) z.re) (off + d + k) z.im nan (simp length-set (omega arith)))

pub split_none : (l : List Float) (off d : ℕ) (f : ℕ → Complex) → WroteSplit l l off d 0 f
split_none l off d f =
    record { size = refl; inside = λ k h. absurd (omega arith); before = λ j h. refl; between = λ j p q. refl; after = λ j h. refl }

pub split_step : {l l₁ l₂ : List Float} {off d n : ℕ} {f : ℕ → Complex} (z : Complex) → WroteSplit l l₁ off d n f → n < d → off + d + n < length l → l₂ ≡ put_split l₁ off d n z → z ≡ f n
    → WroteSplit l l₂ off d (n + 1) f
split_step {l} {l₁} {l₂} {off} {d} {n} {f} z w h room el ez =
    subst (λ (m : List Float). WroteSplit l m off d (n + 1) f) (sym el)
    (record {
      size = simp length-set w.size;
      inside = below_more (λ k. split (put_split l₁ off d n z) off d k ≡ f k) n
          (λ k b. complex_eq
          (put_other l₁ off d n z h room₁ (off + k) (λ (e : off + k ≡ off + n). omega arith) (λ (e : off + k ≡ off + d + n). omega arith))
          (put_other l₁ off d n z h room₁ (off + d + k) (λ (e : off + d + k ≡ off + n). omega arith) (λ (e : off + d + k ≡ off + d + n). omega arith))
          ∙ w.inside k b)
          (put_same l₁ off d n z h room₁ ∙ ez);
      before = λ j p. put_other l₁ off d n z h room₁ j (λ (e : j ≡ off + n). omega arith) (λ (e : j ≡ off + d + n). omega arith) ∙ w.before j p;
      between = λ j p q. put_other l₁ off d n z h room₁ j (λ (e : j ≡ off + n). omega arith) (λ (e : j ≡ off + d + n). omega arith) ∙ w.between j (omega arith) q;
      after = λ j p. put_other l₁ off d n z h room₁ j (λ (e : j ≡ off + n). omega arith) (λ (e : j ≡ off + d + n). omega arith) ∙ w.after j (omega arith);
    })
  where
    room₁ : off + d + n < length l₁
    room₁ = omega (arith, w.size)

-- number k, before it is written
pub split_next : {l l₁ : List Float} {off d n : ℕ} {f : ℕ → Complex} → WroteSplit l l₁ off d n f → (k : ℕ) → n ≤ k → k < d → split l₁ off d k ≡ split l off d k
split_next w k p q = complex_eq (w.between _ (omega arith) (omega arith)) (w.after _ (omega arith))

-- an array below the region
pub split_below : {l l₁ : List Float} {off d n : ℕ} {f : ℕ → Complex} → WroteSplit l l₁ off d n f → (o d' k : ℕ) → o + d' + k < off → split l₁ o d' k ≡ split l o d' k
split_below w o d' k h = complex_eq (w.before _ (omega arith)) (w.before _ (omega arith))

pub split_ext : {l l₁ : List Float} {off d n : ℕ} {f g : ℕ → Complex} → WroteSplit l l₁ off d n f → ((k : ℕ) → k < n → f k ≡ g k) → WroteSplit l l₁ off d n g
split_ext w e = record { size = w.size; inside = λ k p. w.inside k p ∙ e k p; before = w.before; between = w.between; after = w.after }

-- a region that is written twice holds what was written last
pub split_over : {l l₁ l₂ : List Float} {off d n : ℕ} {f g : ℕ → Complex} → WroteSplit l l₁ off d n f → WroteSplit l₁ l₂ off d n g → WroteSplit l l₂ off d n g
split_over w v =
    record {
      size = v.size ∙ w.size;
      inside = v.inside;
      before = λ j p. v.before j p ∙ w.before j p;
      between = λ j p q. v.between j p q ∙ w.between j p q;
      after = λ j p. v.after j p ∙ w.after j p;
    }

-- what is there already
pub split_same : {l : List Float} {off d n : ℕ} {f : ℕ → Complex} → ((k : ℕ) → k < n → split l off d k ≡ f k) → WroteSplit l l off d n f
split_same e = record { size = refl; inside = e; before = λ j p. refl; between = λ j p q. refl; after = λ j p. refl }

-- a number's place, counted from elsewhere
pub split_at : (l : List Float) (o o' d k k' : ℕ) → o + k ≡ o' + k' → split l o d k ≡ split l o' d k'
split_at l o o' d k k' e = complex_eq (ap (at l) e) (ap (at l) (omega arith))
