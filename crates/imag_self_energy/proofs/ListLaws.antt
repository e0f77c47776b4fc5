-- Laws of lists of places, of the table of factors, and of the sum over a list: it is the total.
use Prim.Native.Nat.{ℕ, ◌+◌, ◌*◌, ◌<◌, ◌≤◌}
use native.Mathlib.Nat.{add-zero, mul-le-mul, mul_assoc, add-mul, eq-or-lt_of_le}
use native.Mathlib.Omega.{arith}
use mathlib.Core.Path.{◌≡◌, refl, sym, ap, ◌∙◌}
use mathlib.Core.Bool.{Bool, true, false, ◌&&◌, cond}
use mathlib.Core.List.{List}
use mathlib.Core.Logic.{⊎_elim}
use lib.Dec.{eqb}
use lib.Ieee.{Float, lt}
use lib.ListN.{get_or, length, set, length-set, take}
use mir.Val.{bool_byte}
use Rattle.std.proofs.Common.{length-take-le}
use lib.Seq.{get_or-set_same, get_or-set_other, get_or-take, get_or-drop}
use Rattle.phonon.specs.declared.Band.{Band}
use Rattle.phonon.specs.Number.{◌⊕◌, f0, at, fold, table}
use Rattle.phonon.specs.Sets.{slot, part}
use Rattle.phonon.specs.ImagSelfEnergy.{block, contribution}
use Rattle.phonon.proofs.Laws.{fold_ext, fold_step, table_ext, pair_lt}
use Rattle.imag_self_energy.specs.declared.Shared.{Shared}
use Rattle.imag_self_energy.specs.declared.listed.Factor.{Factor}
use Rattle.imag_self_energy.specs.declared.slots.Slots.{Slots}
use Rattle.imag_self_energy.specs.Bands.{most_bands, band_at, add_slot, slot_step, column_sum, band_total}
use Rattle.imag_self_energy.specs.Lists.{Listed, pair_step, pair_column, pair_walk, unflagged_step, unflagged_walk, Factors, warm_term, cold_term, place_term, pair_total}
use Rattle.imag_self_energy.specs.Totals.{band_totals}

-- ---- lists

pub listed_none : (area : ℕ) (l : List ℕ) → Listed area (λ z g. z) l 0
unfolding fold
listed_none area l = record { places = record { size = omega arith; below = λ i h. absurd (omega arith) }; walked = λ z g. refl }

-- what a list gains by a place that stays or not
pub gain_most : (stays : Bool) {r : ℕ} → r ≡ bool_byte stays → r ≤ 1
gain_most true e = rw e (omega arith)
gain_most false e = rw e (omega arith)

pub listed_same : {area : ℕ} {walk other : Float → (ℕ → Float → Float) → Float} {l : List ℕ} {m : ℕ} → ((z : Float) (g : ℕ → Float → Float) → walk z g ≡ other z g)
    → Listed area walk l m → Listed area other l m
listed_same e w = record { places = w.places; walked = λ z g. w.walked z g ∙ e z g }

-- what is written behind the list is no part of it
before_set : (m : ℕ) (l : List ℕ) (v : ℕ) (z : Float) (g : ℕ → Float → Float) → fold m z (λ i. g (get_or (set l m v) i 0)) ≡ fold m z (λ i. g (get_or l i 0))
before_set m l v z g =
    fold_ext m z (λ i. g (get_or (set l m v) i 0)) (λ i. g (get_or l i 0))
    (λ i h a. ap (λ (o : ℕ). g o a) (get_or-set_other l m i v 0 (λ (e : i ≡ m). omega arith)))

-- a place is written behind the list, and stays or not
listed_kept : {area : ℕ} {walk : Float → (ℕ → Float → Float) → Float} {l : List ℕ} {m : ℕ} (stays : Bool) (v : ℕ) {r : ℕ} → r ≡ bool_byte stays
    → Listed area walk l m → m < length l → v < area → Listed area (λ z g. cond stays (g v (walk z g)) (walk z g)) (set l m v) (m + r)
listed_kept {area} {walk} {l} {m} true v e w h p =
    rw e
    (record {
      places = record {
        size = omega (arith, length-set l m v);
        below = λ i q. ⊎_elim
            (λ (u : i ≡ m). rw (u, get_or-set_same l m v 0 h) p)
            (λ (u : i < m). rw (get_or-set_other l m i v 0 (λ (t : i ≡ m). omega arith)) (w.places.below i u))
            (eq-or-lt_of_le {n = i} {m = m} (omega arith));
      };
      walked = λ z g.
          fold_step m z (λ i. g (get_or (set l m v) i 0))
          ∙ ap (λ (o : ℕ). g o (fold m z (λ i. g (get_or (set l m v) i 0)))) (get_or-set_same l m v 0 h)
          ∙ ap (g v) (before_set m l v z g ∙ w.walked z g);
    })
listed_kept {area} {walk} {l} {m} false v {r} e w h p =
    let none : r ≡ 0 = e in
    rw (none, add-zero)
    (record {
      places = record {
        size = omega (arith, length-set l m v);
        below = λ i q. rw (get_or-set_other l m i v 0 (λ (t : i ≡ m). omega arith)) (w.places.below i q);
      };
      walked = λ z g. before_set m l v z g ∙ w.walked z g;
    })

-- a turn of a loop whose step g makes of each place
listed_turn : {area : ℕ} (before : Float → (ℕ → Float → Float) → Float) (step : (ℕ → Float → Float) → ℕ → Float → Float) {l : List ℕ} {m : ℕ} (i : ℕ) (stays : Bool) (v : ℕ) {r : ℕ}
    → ((g : ℕ → Float → Float) (s : Float) → step g i s ≡ cond stays (g v s) s) → r ≡ bool_byte stays
    → Listed area (λ z g. fold i (before z g) (step g)) l m → m < length l → v < area → Listed area (λ z g. fold (i + 1) (before z g) (step g)) (set l m v) (m + r)
listed_turn before step i stays v e f w h p =
    listed_same (λ z g. sym (fold_step i (before z g) (step g) ∙ e g (fold i (before z g) (step g)))) (listed_kept stays v f w h p)

pub pair_turn : (cutoff : Float) (n : ℕ) (seconds thirds : List Band) (k : ℕ) (q : Band) (j : ℕ) {l : List ℕ} {m r : ℕ}
    → r ≡ bool_byte (lt cutoff (band_at seconds j).frequency && lt cutoff q.frequency)
    → Listed (n * n) (λ z g. fold j (fold k z (pair_column cutoff n seconds thirds g)) (pair_step cutoff n seconds g k q)) l m → m < length l → j * n + k < n * n
    → Listed (n * n) (λ z g. fold (j + 1) (fold k z (pair_column cutoff n seconds thirds g)) (pair_step cutoff n seconds g k q)) (set l m (j * n + k)) (m + r)
unfolding pair_step
pair_turn cutoff n seconds thirds k q j e w h p =
    listed_turn (λ z g. fold k z (pair_column cutoff n seconds thirds g)) (λ g. pair_step cutoff n seconds g k q) j
    (lt cutoff (band_at seconds j).frequency && lt cutoff q.frequency) (j * n + k) (λ g s. refl) e w h p

pub unflagged_turn : (area c : ℕ) (flags pairs : List ℕ) (i : ℕ) {l : List ℕ} {m r : ℕ} → r ≡ bool_byte (eqb (get_or flags (c * area + get_or pairs i 0) 0) 0)
    → Listed area (λ z g. fold i z (unflagged_step area c flags pairs g)) l m → m < length l → get_or pairs i 0 < area
    → Listed area (λ z g. fold (i + 1) z (unflagged_step area c flags pairs g)) (set l m (get_or pairs i 0)) (m + r)
unfolding unflagged_step
unflagged_turn area c flags pairs i e w h p =
    listed_turn (λ z g. z) (unflagged_step area c flags pairs) i (eqb (get_or flags (c * area + get_or pairs i 0) 0) 0) (get_or pairs i 0) (λ g s. refl) e w h p

-- the list by itself, without what stands behind it
pub listed_front : {area : ℕ} {walk : Float → (ℕ → Float → Float) → Float} (l : List ℕ) (m : ℕ) → Listed area walk l m → Listed area walk (take m l) (length (take m l))
listed_front l m w =
    let e : length (take m l) ≡ m = length-take-le m l w.places.size in
    rw e
    (record {
      places = record { size = omega (arith, e); below = λ i h. rw (get_or-take m l i 0 h) (w.places.below i h) };
      walked = λ z g. fold_ext m z _ _ (λ i h a. ap (λ (o : ℕ). g o a) (get_or-take m l i 0 h)) ∙ w.walked z g;
    })

-- ---- a table of n columns, row by row

-- rows before j are filled with f, and k cells of row j
pub record Cells {A : Type 0} (n j k : ℕ) (f : ℕ → ℕ → A) (l : List A) : Type 0 where
  pub rows : (a b : ℕ) → a < j → b < n → (d : A) → get_or l (a * n + b) d ≡ f a b
  pub row : (b : ℕ) → b < k → (d : A) → get_or l (j * n + b) d ≡ f j b

pub cells_step : {A : Type 0} {n j k : ℕ} {f : ℕ → ℕ → A} {l : List A} (x : A) → Cells n j k f l → k < n → j * n + k < length l → x ≡ f j k → Cells n j (k + 1) f (set l (j * n + k) x)
cells_step {A} {n} {j} {k} {f} {l} x w p h e =
    record {
      rows = λ a b q r d.
          let s : a * n + b < j * n = pair_lt q r in
          get_or-set_other l (j * n + k) (a * n + b) x d (λ (t : a * n + b ≡ j * n + k). omega arith) ∙ w.rows a b q r d;
      row = λ b q d. ⊎_elim
          (λ (u : b ≡ k). rw u (get_or-set_same l (j * n + k) x d h ∙ e))
          (λ (u : b < k). get_or-set_other l (j * n + k) (j * n + b) x d (λ (t : j * n + b ≡ j * n + k). omega arith) ∙ w.row b u d)
          (eq-or-lt_of_le {n = b} {m = k} (omega arith));
    }

pub cells_next : {A : Type 0} {n j k : ℕ} {f : ℕ → ℕ → A} {l : List A} → Cells n j k f l → k ≡ n → Cells n (j + 1) 0 f l
cells_next {A} {n} {j} {k} {f} {l} w e =
    record {
      rows = λ a b p q d. ⊎_elim
          (λ (u : a ≡ j). rw u (w.row b (omega arith) d))
          (λ (u : a < j). w.rows a b u q d)
          (eq-or-lt_of_le {n = a} {m = j} (omega arith));
      row = λ b p d. absurd (omega arith);
    }

-- ---- places

-- of pair (j, k) of few bands, and of the pairs listed before it
pub record Room (n j k : ℕ) : Type 0 where
  pub inside : j * n + k < n * n
  pub before : k * n + j < n * n
  pub few : n * n ≤ most_bands * most_bands

pub room_of : {n j k : ℕ} → n ≤ most_bands → j < n → k < n → Room n j k
room_of h p q = record { inside = pair_lt p q; before = pair_lt q p; few = mul-le-mul h h }

slot_place : (n c j k : ℕ) → c * (n * n) + (j * n + k) ≡ slot n c j k
slot_place n c j k = omega (arith, add-mul (c * n) j n, mul_assoc c n n)

part_place : (n c j k : ℕ) (l : List Float) → j < n → k < n → at (part (n * n) c l) (j * n + k) ≡ at l (slot n c j k)
part_place n c j k l p q = let i : j * n + k < n * n = pair_lt p q in rw (sym (slot_place n c j k)) (rw (get_or-take, get_or-drop) refl)

-- ---- the sum over a list

module _ (h : Shared) (n c b : ℕ) (seconds thirds : List Band) (flags : List ℕ) (x y v : List Float) (factors : List Factor) (w : Factors n seconds thirds factors) where
  term_is : (j k : ℕ) → j < n → k < n
      → place_term h factors (n * n) c x y b v (j * n + k)
      ≡ contribution h.temperature h.weight (band_at seconds j).occupation (band_at thirds k).occupation (at x (slot n c j k)) (at y (slot n c j k)) (at v (slot n b j k))
  unfolding place_term warm_term cold_term contribution
  term_is j k p q = rw (w.factor j k p q, part_place n c j k x p q, part_place n c j k y p q, part_place n b j k v p q) refl

  -- what a slot does to the sum: nothing, where it is flagged
  slot_at : ℕ → Float → Float
  slot_at o s = cond (eqb (get_or flags (c * (n * n) + o) 0) 0) (s ⊕ place_term h factors (n * n) c x y b v o) s

  nested : (a p q : Bool) (s : Float) {t u : Float} → t ≡ u → cond (p && q) (cond a (s ⊕ t) s) s ≡ cond (a && p && q) (s ⊕ u) s
  nested true true true s e = ap (λ z. s ⊕ z) e
  nested true true false s e = refl
  nested true false q s e = refl
  nested false true true s e = refl
  nested false true false s e = refl
  nested false false q s e = refl

  step_is : (j k : ℕ) → j < n → k < n → (s : Float)
      → pair_step h.cutoff n seconds slot_at k (band_at thirds k) j s ≡ slot_step h n c b seconds flags x y v k (band_at thirds k) j s
  unfolding pair_step slot_step add_slot slot_at
  step_is j k p q s =
      rw (slot_place n c j k)
      (nested (eqb (get_or flags (slot n c j k) 0) 0) (lt h.cutoff (band_at seconds j).frequency) (lt h.cutoff (band_at thirds k).frequency) s (term_is j k p q))

  -- the walk over the pairs is the total
  pair_total_lem : (pairs : List ℕ) (count : ℕ) → Listed (n * n) (pair_walk h.cutoff n seconds thirds) pairs count
      → pair_total h (n * n) count pairs flags x y v factors c b ≡ band_total h n c b seconds thirds flags x y v
  unfolding pair_total unflagged_walk unflagged_step pair_walk pair_column band_total column_sum slot_at
  pair_total_lem pairs count p = p.walked f0 slot_at ∙ fold_ext n f0 _ _ (λ k pk u. fold_ext n u _ _ (λ j pj s. step_is j k pj pk s))

-- of every position, with the block that it reads: the pairs are the first m of a list
pub listed_totals_are : (s : Slots) (seconds thirds : List Band) (list : List ℕ) (m : ℕ) (factors : List Factor) {F : ℕ} {r : List Float} → length seconds ≡ s.bands → F ≡ s.positions
    → Listed (length seconds * length seconds) (pair_walk s.shared.cutoff (length seconds) seconds thirds) list m
    → Factors (length seconds) seconds thirds factors
    → r ≡ table F (λ b. pair_total s.shared (s.bands * s.bands) (length (take m list)) (take m list) s.flags.now s.integration.first.now s.integration.second.now s.strengths.now factors (block s.weights b) b)
    → r ≡ band_totals s seconds thirds
listed_totals_are s seconds thirds list m factors n e p f t =
    rw e at t
    ∙ table_ext s.positions _ _
    (λ b q. pair_total_lem s.shared s.bands (block s.weights b) b seconds thirds s.flags.now s.integration.first.now s.integration.second.now s.strengths.now factors (rw n at f) (take m list) (length (take m list))
    (listed_front list m (rw n at p)))

-- the sum over the unflagged of the pairs is the walk over them, of the block that position b reads
pub total_listed : (h : Shared) (area count c d b : ℕ) (pairs flags list : List ℕ) (x y v : List Float) (factors : List Factor) (m : ℕ) {r : Float} → c ≡ d
    → Listed area (unflagged_walk area c flags pairs count) list m
    → r ≡ fold m f0 (λ i t. t ⊕ place_term h factors area c x y b v (get_or list i 0))
    → r ≡ pair_total h area count pairs flags x y v factors d b
unfolding pair_total
total_listed h area count c d b pairs flags list x y v factors m e q u =
    u ∙ q.walked f0 (λ o t. t ⊕ place_term h factors area c x y b v o) ∙ ap (λ (z : ℕ). pair_total h area count pairs flags x y v factors z b) e
