-- Laws of regions: how a loop that writes one extends what it has written, and what is left as it was.
use mathlib.Core.Path.{◌≡◌, refl, ap, ◌∙◌}
use mathlib.Core.List.{List}
use Prim.Native.Nat.{ℕ, ◌+◌, ◌-◌, ◌<◌, ◌≤◌}
use native.Mathlib.Decide.{dec_lt}
use native.Mathlib.Omega.{arith}
use lib.ListN.{length, set, length-set}
use lib.Seq.{get_or-set_same, get_or-set_other}
use borrow.Author.Count.{below_more}
use lib.Ieee.{Float, nan}
use Rattle.phonon.specs.declared.Complex.{Complex}
use Rattle.phonon.specs.Number.{at}
use Rattle.planes.specs.Region.{Wrote, SameOutside}
use Rattle.planes.specs.Split.{split, WroteSplit}
use Rattle.planes.proofs.SplitLaws.{complex_eq}

-- ---- a run of numbers

pub wrote_none : (l : List Float) (off : ℕ) (f : ℕ → Float) → Wrote l l off 0 f
wrote_none l off f = record { size = refl; inside = λ k h. absurd (omega arith); before = λ j h. refl; after = λ j h. refl }

-- one number more
pub wrote_step : {l l₁ : List Float} {off n : ℕ} {f : ℕ → Float} (x : Float) → Wrote l l₁ off n f → off + n < length l → x ≡ f n → Wrote l (set l₁ (off + n) x) off (n + 1) f
wrote_step {l} {l₁} {off} {n} {f} x w room ex =
    record {
      size = length-set l₁ (off + n) x ∙ w.size;
      inside = below_more (λ k. at (set l₁ (off + n) x) (off + k) ≡ f k) n
          (λ k b. get_or-set_other l₁ (off + n) (off + k) x nan (λ (e : off + k ≡ off + n). omega arith) ∙ w.inside k b)
          (get_or-set_same l₁ (off + n) x nan (omega (arith, w.size)) ∙ ex);
      before = λ j p. get_or-set_other l₁ (off + n) j x nan (λ (e : j ≡ off + n). omega arith) ∙ w.before j p;
      after = λ j p. get_or-set_other l₁ (off + n) j x nan (λ (e : j ≡ off + n). omega arith) ∙ w.after j (omega arith);
    }

-- ---- arrays in two planes that are written some numbers at a time

-- m numbers from number j on, of which the first may have been written before
pub split_append : {l l₁ l₂ : List Float} {off d i j m : ℕ} {f g : ℕ → Complex} → WroteSplit l l₁ off d i f → WroteSplit l₁ l₂ (off + j) d m g → j ≤ i → i ≤ j + m → j + m ≤ d → ((c : ℕ) → c < m → g c ≡ f (j + c))
    → WroteSplit l l₂ off d (j + m) f
split_append {l} {l₁} {l₂} {off} {d} {i} {j} {m} {f} {g} w v ji im h e =
    record {
      size = v.size ∙ w.size;
      inside = λ k p. one k p (dec_lt k j);
      before = λ x p. v.before x (omega arith) ∙ w.before x p;
      between = λ x p q. v.between x (omega arith) (omega arith) ∙ w.between x (omega arith) q;
      after = λ x p. v.after x (omega arith) ∙ w.after x (omega arith);
    }
  where
    one : (k : ℕ) → k < j + m → Dec (k < j) → split l₂ off d k ≡ f k
    one k p (yes q) = complex_eq (v.before _ (omega arith)) (v.between _ (omega arith) (omega arith)) ∙ w.inside k (omega arith)
    one k p (no q) =
        complex_eq (ap (at l₂) (omega arith)) (ap (at l₂) (omega arith)) ∙ v.inside (k - j) (omega arith) ∙ e (k - j) (omega arith) ∙ ap f (omega arith)

-- m numbers behind the first n
pub split_join : {l l₁ l₂ : List Float} {off o d n m : ℕ} {f g : ℕ → Complex} → WroteSplit l l₁ off d n f → WroteSplit l₁ l₂ o d m g → o ≡ off + n → n + m ≤ d
    → ((k : ℕ) → k < m → g k ≡ f (n + k)) → WroteSplit l l₂ off d (n + m) f
split_join w v p room e = split_append w (rw p at v) (omega arith) (omega arith) room e

pub split_to : {l l₁ : List Float} {off d : ℕ} (n n' : ℕ) {f : ℕ → Complex} → n ≡ n' → WroteSplit l l₁ off d n f → WroteSplit l l₁ off d n' f
split_to n n' e w = rw e at w

-- ---- what is left as it was

pub outside_none : (l : List Float) (a b : ℕ) → SameOutside l l a b
outside_none l a b = record { size = refl; before = λ j h. refl; after = λ j h. refl }

pub outside_then : {l l₁ l₂ : List Float} {a b : ℕ} → SameOutside l l₁ a b → SameOutside l₁ l₂ a b → SameOutside l l₂ a b
outside_then w v = record { size = v.size ∙ w.size; before = λ j h. v.before j h ∙ w.before j h; after = λ j h. v.after j h ∙ w.after j h }

pub outside_wider : {l l' : List Float} {a b : ℕ} (a' b' : ℕ) → a' ≤ a → b ≤ b' → SameOutside l l' a b → SameOutside l l' a' b'
outside_wider a' b' p q w = record { size = w.size; before = λ j h. w.before j (omega arith); after = λ j h. w.after j (omega arith) }

pub outside_split : {l l' : List Float} {off d n : ℕ} {f : ℕ → Complex} (a b : ℕ) → a ≤ off → off + d + n ≤ b → n ≡ d → WroteSplit l l' off d n f → SameOutside l l' a b
outside_split {off = off} {d} {n} a b p q e w =
    record { size = w.size; before = λ j h. w.before j (omega arith); after = λ j h. w.after j (omega arith) }

-- an array below what was written
pub split_outside : {l l' : List Float} {a b : ℕ} → SameOutside l l' a b → (o d k : ℕ) → o + d + k < a → split l' o d k ≡ split l o d k
split_outside w o d k h = complex_eq (w.before _ (omega arith)) (w.before _ (omega arith))
