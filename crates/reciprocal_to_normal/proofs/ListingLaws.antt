-- The full listing grows by one number, one row and one plane, while the scratch below it changes.
use mathlib.Core.Path.{◌≡◌, refl, sym, ap, ◌∙◌}
use mathlib.Core.List.{List}
use Prim.Native.Nat.{ℕ, ◌+◌, ◌-◌, ◌*◌, ◌/◌, ◌%◌, ◌<◌, ◌≤◌}
use native.Mathlib.Nat.{add-mul, mul_assoc, div-add-mod', mod-lt, mod-eq_of_lt, div-lt_iff_lt-mul}
use native.Mathlib.Decide.{dec_lt}
use native.Mathlib.Omega.{arith}
use lib.ListN.{length, set, length-set}
use lib.Seq.{get_or-set_same, get_or-set_other}
use lib.Ieee.{Float, nan}
use Rattle.phonon.specs.declared.Complex.{Complex}
use Rattle.phonon.specs.Number.{at}
use Rattle.phonon.specs.ReciprocalToNormal.{strength_from}
use Rattle.phonon.specs.Sets.{slot}
use Rattle.phonon.proofs.Laws.{div_of, mod_of}
use Rattle.planes.specs.Region.{SameOutside}
use Rattle.reciprocal_to_normal.specs.Arrays.{amplitude_from}
use Rattle.reciprocal_to_normal.specs.Slots.{b_of, j_of, k_of, plane_slot}
use Rattle.reciprocal_to_normal.specs.Listing.{WroteAbove}
use Rattle.reciprocal_to_normal.proofs.SlotLaws.{b_of_lem, j_of_lem, k_of_lem}

pub above_none : (l : List Float) (a b off : ℕ) (f : ℕ → Float) → WroteAbove l l a b off 0 f
above_none l a b off f =
    record { size = refl; inside = λ k h. absurd (omega arith); before = λ j h. refl; between = λ j p q. refl; after = λ j h. refl }

-- one number
pub above_put : (l : List Float) (a b off : ℕ) {x y : Float} → off < length l → a ≤ off → x ≡ y → WroteAbove l (set l off x) a b off 1 (λ i. y)
above_put l a b off {x} room h e =
    record {
      size = length-set l off x;
      inside = λ k p. ap (at (set l off x)) (omega arith) ∙ get_or-set_same l off x nan room ∙ e;
      before = λ j p. get_or-set_other l off j x nan (λ (q : j ≡ off). omega arith);
      between = λ j p q. get_or-set_other l off j x nan (λ (r : j ≡ off). omega arith);
      after = λ j p. get_or-set_other l off j x nan (λ (q : j ≡ off). omega arith);
    }

-- m numbers more
pub above_append : {l l₁ l₂ : List Float} {a b off n m : ℕ} {f g : ℕ → Float} → WroteAbove l l₁ a b off n f → WroteAbove l₁ l₂ a b (off + n) m g → b ≤ off → ((c : ℕ) → c < m → g c ≡ f (n + c))
    → WroteAbove l l₂ a b off (n + m) f
above_append {l} {l₁} {l₂} {a} {b} {off} {n} {m} {f} {g} w v h e =
    record {
      size = v.size ∙ w.size;
      inside = λ k p. one k p (dec_lt k n);
      before = λ j p. v.before j p ∙ w.before j p;
      between = λ j p q. v.between j p (omega arith) ∙ w.between j p q;
      after = λ j p. v.after j (omega arith) ∙ w.after j (omega arith);
    }
  where
    one : (k : ℕ) → k < n + m → Dec (k < n) → at l₂ (off + k) ≡ f k
    one k p (yes q) = v.between (off + k) (omega arith) (omega arith) ∙ w.inside k q
    one k p (no q) = ap (at l₂) (omega arith) ∙ v.inside (k - n) (omega arith) ∙ e (k - n) (omega arith) ∙ ap f (omega arith)

pub above_to : {l l₁ : List Float} {a b off : ℕ} (n n' : ℕ) {f : ℕ → Float} → n ≡ n' → WroteAbove l l₁ a b off n f → WroteAbove l l₁ a b off n' f
above_to n n' e w = rw e at w

-- scratch that changes before
pub above_outside : {l l₁ l₂ : List Float} {a b off n : ℕ} {f : ℕ → Float} → SameOutside l l₁ a b → b ≤ off → WroteAbove l₁ l₂ a b off n f → WroteAbove l l₂ a b off n f
above_outside u h w =
    record {
      size = w.size ∙ u.size;
      inside = w.inside;
      before = λ j p. w.before j p ∙ u.before j p;
      between = λ j p q. w.between j p q ∙ u.after j p;
      after = λ j p. w.after j p ∙ u.after j (omega arith);
    }

pub above_wider : {l l' : List Float} {a b off n : ℕ} {f : ℕ → Float} (a' b' : ℕ) → a' ≤ a → b ≤ b' → WroteAbove l l' a b off n f → WroteAbove l l' a' b' off n f
above_wider a' b' p q w =
    record {
      size = w.size;
      inside = w.inside;
      before = λ j h. w.before j (omega arith);
      between = λ j h g. w.between j (omega arith) g;
      after = w.after;
    }

pub outside_above : {l l' : List Float} {a b off n : ℕ} {f : ℕ → Float} → WroteAbove l l' a b off n f → SameOutside l l' a (off + n)
outside_above w = record { size = w.size; before = w.before; after = w.after }

-- ---- the bands of a number

module _ (B : ℕ) {j k : ℕ} (pj : j < B) (pk : k < B) where
  row_j : j_of B (j * B + k) ≡ j
  unfolding j_of
  row_j = ap (λ x. x % B) (div_of B pk j) ∙ mod-eq_of_lt pj

  row_k : k_of B (j * B + k) ≡ k
  unfolding k_of
  row_k = mod_of B pk j

  -- number k of row j
  pub row_is : (m e1 e2 : ℕ → Complex) (f1 f2 : ℕ → Float) (x cutoff : Float)
      → strength_from cutoff (amplitude_from B m e1 e2 j k) x (f1 j) (f2 k) ≡ plane_slot B m e1 e2 f1 f2 x cutoff (j * B + k)
  unfolding plane_slot
  row_is m e1 e2 f1 f2 x cutoff = rw (row_j, row_k)

module _ (B b t : ℕ) (h : t < B * B) where
  some : 0 < B
  some = go (dec_lt 0 B)
    where
      go : Dec (0 < B) → 0 < B
      go (yes q) = q
      go (no q) = let e : B ≡ 0 = omega arith in let z : t < 0 * 0 = rw e at h in absurd (omega arith)

  at_of : b * (B * B) + t ≡ slot B b (t / B) (t % B)
  at_of =
      ap (λ x. b * (B * B) + x) (sym (div-add-mod' t B))
      ∙ let e = add-mul (b * B) (t / B) B in let f = mul_assoc b B B in omega arith

  j_below : t / B < B
  j_below = (div-lt_iff_lt-mul some).1 h

  k_below : t % B < B
  k_below = mod-lt t some

  pub plane_b : b_of B (b * (B * B) + t) ≡ b
  plane_b = ap (b_of B) at_of ∙ b_of_lem B j_below k_below b

  plane_j : j_of B (b * (B * B) + t) ≡ j_of B t
  unfolding j_of
  plane_j = ap (j_of B) at_of ∙ j_of_lem B j_below k_below b ∙ sym (mod-eq_of_lt j_below)

  plane_k : k_of B (b * (B * B) + t) ≡ k_of B t
  unfolding k_of
  plane_k = ap (k_of B) at_of ∙ k_of_lem B j_below k_below b

  pub j_lt_of : j_of B (b * (B * B) + t) < B
  j_lt_of = rw (ap (j_of B) at_of ∙ j_of_lem B j_below k_below b) j_below

  pub k_lt_of : k_of B (b * (B * B) + t) < B
  k_lt_of = rw (ap (k_of B) at_of ∙ k_of_lem B j_below k_below b) k_below

  -- number t of plane b
  pub plane_at : (m e1 e2 : ℕ → Complex) (f1 f2 : ℕ → Float) (x cutoff : Float) → plane_slot B m e1 e2 f1 f2 x cutoff t ≡ plane_slot B m e1 e2 f1 f2 x cutoff (b * (B * B) + t)
  unfolding plane_slot
  plane_at m e1 e2 f1 f2 x cutoff = rw (plane_j, plane_k)
