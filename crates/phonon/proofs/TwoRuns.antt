-- Demand 3. A kept slot's strength is worked from force constants that no change reaches, from three unchanged bands, and from a cutoff that
-- lies below all three of its frequencies in both runs and so has no part in it. A total is the same sum over the same slots.
use Prim.Native.Nat.{ℕ, zero, suc, ◌+◌, ◌*◌, ◌/◌, ◌<◌}
use native.Mathlib.Omega.{arith}
use mathlib.Core.Path.{◌≡◌, refl, sym, ap, ◌∙◌, subst}
use mathlib.Core.Bool.{Bool, true, false, cond}
use mathlib.Core.List.{List, []}
use lib.Dec.{T}
use lib.Ieee.{Float, nan, lt, le}
use lib.ListN.{get_or, length}
use Rattle.phonon.specs.declared.Symmetry.{Symmetry}
use Rattle.phonon.specs.declared.Symmetry.TheVariants.{Off, Symmetrized}
use Rattle.phonon.specs.Number.{◌⊕◌, ◌⊗◌, ◌⊘◌, f0, f6, at, index, int, flagged, table}
use Rattle.phonon.specs.Common.{scale}
use Rattle.phonon.specs.declared.Legs.{Legs}
use Rattle.phonon.specs.Sets.{Phonons, Triplet, bands_of, slot, slots, part, TripletSet, ListSet, TotalsSet, JoinedSet, of_triplet, of_joined, of_list}
use Rattle.phonon.specs.RealToReciprocal.{q_at, reciprocal}
use Rattle.phonon.specs.ReciprocalToNormal.{inverse_roots, column_entry, column, Phonon, phonon_at, amplitude, squared, cut, any_cut, strength_from, strength}
use Rattle.phonon.specs.Interaction.{orders, leg, exchanged, order_count, point, reciprocals, sixth, value, phonons_at, strength_with, strength_at, slot_with, strengths_with, strengths, list_strengths}
use Rattle.phonon.specs.ImagSelfEnergy.{Sum, second1, third2, counted, slot_term, total, totals, sum_alone, sum_joined}
use Rattle.phonon.specs.Refusal.{triplet_refusal, list_refusal, totals_refusal, joined_refusal}
use Rattle.phonon.specs.Doors.{triplet_leaves, triplet_outcome, list_leaves, list_outcome, totals_leaves, totals_outcome, joined_with, joined_leaves, joined_outcome}
use Rattle.phonon.specs.Demand3.{Run, one, joined, share, IsAccepted, worked, written, Narrowed, Unchanged, Stays, IsSlot, Kept, SameStrength, SameBath, SameElse, SameSlot, SameTotal, SameAlone, Demand3}
use Rattle.phonon.proofs.Laws.{fold_ext, ctable_ext, table_at, table_length, div_of, mod_of, joined_part, pair_lt, part_at}
use Rattle.phonon.proofs.Order.{to_T, is_false, lt_not_le, le_lt}

-- ---- above the cutoff, the cutoff has no part in a strength

record Clear (c : Float) (s : Legs Phonon) : Type 0 where
  at0 : cut c s.leg0.frequency ≡ false
  at1 : cut c s.leg1.frequency ≡ false
  at2 : cut c s.leg2.frequency ≡ false

clear_leg : (c : Float) (s : Legs Phonon) → Clear c s → (x : ℕ) → cut c (leg s x).frequency ≡ false
clear_leg c s h zero = h.at0
clear_leg c s h (suc zero) = h.at1
clear_leg c s h (suc (suc n)) = h.at2

clear_exchanged : (c : Float) (s : Legs Phonon) → Clear c s → (o : ℕ) → Clear c (exchanged o s)
unfolding exchanged
clear_exchanged c s h o = record {
  at0 = clear_leg c s h (get_or (get_or orders o []) 0 0);
  at1 = clear_leg c s h (get_or (get_or orders o []) 1 0);
  at2 = clear_leg c s h (get_or (get_or orders o []) 2 0);
}

uncut : ℕ → List Float → Legs Phonon → Float
uncut P r s = squared (amplitude P r s) ⊘ (s.leg0.frequency ⊗ s.leg1.frequency ⊗ s.leg2.frequency)

strength_clear : (P : ℕ) (r : List Float) (s : Legs Phonon) (c : Float) → Clear c s → strength P r s c ≡ uncut P r s
unfolding strength strength_from any_cut uncut
strength_clear P r s c h = rw (h.at0, h.at1, h.at2)

module _ (P : ℕ) (s : Legs Phonon) (c d : Float) (h : Clear c s) (k : Clear d s) where
  value_same : (y : Symmetry) (rs : List (List Float)) → value y P rs s c ≡ value y P rs s d
  unfolding value sixth
  value_same Off rs = strength_clear P (get_or rs 0 []) s c h ∙ sym (strength_clear P (get_or rs 0 []) s d k)
  value_same Symmetrized rs =
      fold_ext 6 f0 _ _ (λ o l sum. ap (λ x. sum ⊕ x ⊘ f6)
      (strength_clear P (get_or rs o []) (exchanged o s) c (clear_exchanged c s h o) ∙ sym (strength_clear P (get_or rs o []) (exchanged o s) d (clear_exchanged d s k o))))

-- a frequency above a raised cutoff is above both
below_both : (c d f g : Float) → le c d ≡ true → f ≡ g → lt d g ≡ true → (cut c f ≡ false) × (cut d f ≡ false)
below_both c d f g p e q =
    let a : T (lt d f) = rw e (to_T (lt d g) q) in
    (is_false (le f c) (lt_not_le c f (le_lt c d f (to_T (le c d) p) a)), is_false (le f d) (lt_not_le d f a))

-- ---- an unchanged band is the same phonon

phonon_same : (B : ℕ) (inv : List Float) (p q : Phonons) (g n : ℕ) → Unchanged B p q g n → phonon_at B inv p g n ≡ phonon_at B inv q g n
unfolding phonon_at column column_entry
phonon_same B inv p q g n u =
    let e : column B p.eigenvectors inv g n ≡ column B q.eigenvectors inv g n =
    ctable_ext B _ _ (λ m l. ap (λ z. scale z (at inv (m / 3))) (u.entries m l)) in
    λ i. record { frequency = u.frequency i; column = e i }

-- ---- a kept slot's strength

module _ (x y : Triplet) (n : Narrowed x y) where
  reciprocals_same : reciprocals x ≡ reciprocals y
  unfolding reciprocals
  reciprocals_same = λ i. table (order_count (n.symmetry i)) (λ o.
      reciprocal (n.measures i).atoms (n.measures i).supercell (n.anchoring i) (n.crystal i) (exchanged o (record {
        leg0 = q_at (n.grid i) (index (int (n.points i) 0));
        leg1 = q_at (n.grid i) (index (int (n.points i) 1));
        leg2 = q_at (n.grid i) (index (int (n.points i) 2));
      })))

  inverse_same : inverse_roots x.tables.measures.atoms x.tables.crystal.masses ≡ inverse_roots y.tables.measures.atoms y.tables.crystal.masses
  inverse_same = λ i. inverse_roots (n.measures i).atoms (n.crystal i).masses

  module _ (b j k : ℕ) (h : Kept x y b j k) where
    leg_same : (inv : List Float) (g g' m m' : ℕ) → g ≡ g' → m ≡ m' → Stays x y g' m'
        → phonon_at (bands_of x.tables.measures) inv x.tables.phonons g m ≡ phonon_at (bands_of y.tables.measures) inv y.tables.phonons g' m'
    leg_same inv g g' m m' p q u =
        (λ i. phonon_at (bands_of (n.measures i)) inv x.tables.phonons (p i) (q i)) ∙ phonon_same (bands_of y.tables.measures) inv _ _ g' m' u.unchanged

    phonons_same : (inv : List Float) → phonons_at x inv b j k ≡ phonons_at y inv b j k
    unfolding phonons_at
    phonons_same inv =
        let p = leg_same inv _ _ _ _ (λ i. index (int (n.points i) 0)) (λ i. index (int (n.bands i) b)) h.stays0 in
        let q = leg_same inv _ _ _ _ (λ i. index (int (n.points i) 1)) refl h.stays1 in
        let r = leg_same inv _ _ _ _ (λ i. index (int (n.points i) 2)) refl h.stays2 in
        λ i. record { leg0 = p i; leg1 = q i; leg2 = r i }

    clear_same : (inv : List Float) → Clear x.tables.settings.cutoff (phonons_at y inv b j k) × Clear y.tables.settings.cutoff (phonons_at y inv b j k)
    unfolding phonons_at phonon_at
    clear_same inv =
        let p = below_both _ _ _ _ n.raised refl h.stays0.above in
        let q = below_both _ _ _ _ n.raised refl h.stays1.above in
        let r = below_both _ _ _ _ n.raised refl h.stays2.above in
        (record { at0 = p.0; at1 = q.0; at2 = r.0 }, record { at0 = p.1; at1 = q.1; at2 = r.1 })

    pub kept_strength : strength_at x b j k ≡ strength_at y b j k
    unfolding strength_at strength_with
    kept_strength =
        let inv = inverse_roots y.tables.measures.atoms y.tables.crystal.masses in
        let c = clear_same inv in
        (λ i. value (n.symmetry i) (n.measures i).atoms (reciprocals_same i) ((ap (λ v. phonons_at x v b j k) inverse_same ∙ phonons_same inv) i) x.tables.settings.cutoff)
        ∙ value_same y.tables.measures.atoms (phonons_at y inv b j k) _ _ c.0 c.1 y.tables.symmetry (reciprocals y)

    -- it is not flagged in the first run either
    pub kept_first : flagged x.flags (slot (bands_of x.tables.measures) b j k) ≡ false
    kept_first = go (flagged x.flags s) refl
      where
        s : ℕ
        s = slot (bands_of x.tables.measures) b j k

        e : flagged y.flags s ≡ false
        e = (λ i. flagged y.flags (slot (bands_of (n.measures i)) b j k)) ∙ h.unflagged

        go : (f : Bool) → flagged x.flags s ≡ f → f ≡ false
        go true q = absurd (subst T e (to_T (flagged y.flags s) (n.added s q)))
        go false q = refl

-- ---- what stands in a slot after the call

module _ (t : Triplet) (b j k : ℕ) (s : IsSlot t b j k) where
  pub slot_lt : slot (bands_of t.tables.measures) b j k < slots t.tables.measures
  slot_lt = pair_lt (pair_lt s.first s.second) s.third

  pub strengths_at : (v : List Float) → flagged t.flags (slot (bands_of t.tables.measures) b j k) ≡ false
      → at (strengths t v) (slot (bands_of t.tables.measures) b j k) ≡ strength_at t b j k
  unfolding strengths strengths_with slot_with strength_at
  strengths_at v u =
      let B : ℕ = bands_of t.tables.measures in
      table_at (slots t.tables.measures) (slot B b j k) _ nan slot_lt
      ∙ rw (div_of B s.third (b * B + j), mod_of B s.third (b * B + j), div_of B s.second b, mod_of B s.second b, u)

pub strengths_length : (t : Triplet) (v : List Float) → length (strengths t v) ≡ slots t.tables.measures
unfolding strengths strengths_with
strengths_length t v = table_length (slots t.tables.measures) _

pub list_at : (s : ListSet) (t m : ℕ) → t < s.list → m < slots s.tables.measures
    → at (list_strengths s) (t * slots s.tables.measures + m) ≡ at (strengths (of_list s t) (part (slots s.tables.measures) t s.strengths)) m
unfolding list_strengths
list_at s t m p q =
    let N : ℕ = slots s.tables.measures in
    sym (part_at _ (t * N) N m nan q)
    ∙ ap (λ l. at l m) (joined_part N (λ x. strengths (of_list s x) (part N x s.strengths)) (λ x. strengths_length (of_list s x) (part N x s.strengths)) s.list t p)

-- ---- an answer that accepts fixes what is left

no_refusal : (m : ℕ) → ◌≡◌ {A = ℕ} (suc m) 0 → ⊥
no_refusal m e = omega arith

pub triplet_left : (s : TripletSet) → (triplet_outcome s).answer ≡ 0 → (triplet_outcome s).strengths ≡ strengths (of_triplet s) s.strengths
unfolding triplet_outcome triplet_leaves
triplet_left s = go (triplet_refusal s)
  where
    go : (m : ℕ) → (triplet_leaves m s).answer ≡ 0 → (triplet_leaves m s).strengths ≡ strengths (of_triplet s) s.strengths
    go zero e = refl
    go (suc m) e = absurd (no_refusal m e)

pub list_left : (s : ListSet) → (list_outcome s).answer ≡ 0 → (list_outcome s).strengths ≡ list_strengths s
unfolding list_outcome list_leaves
list_left s = go (list_refusal s)
  where
    go : (m : ℕ) → (list_leaves m s).answer ≡ 0 → (list_leaves m s).strengths ≡ list_strengths s
    go zero e = refl
    go (suc m) e = absurd (no_refusal m e)

pub joined_left_lem : (s : JoinedSet) → (joined_outcome s).answer ≡ 0 → joined_outcome s ≡ joined_with s (strengths (of_joined s) s.strengths)
unfolding joined_outcome joined_leaves
joined_left_lem s = go (joined_refusal s)
  where
    go : (m : ℕ) → (joined_leaves m s).answer ≡ 0 → joined_leaves m s ≡ joined_with s (strengths (of_joined s) s.strengths)
    go zero e = refl
    go (suc m) e = absurd (no_refusal m e)

pub totals_left_lem : (s : TotalsSet) → (totals_outcome s).answer ≡ 0
    → (totals_outcome s).totals ≡ totals s.measures.first (sum_alone s) s.bath.temperature s.strengths
unfolding totals_outcome totals_leaves
totals_left_lem s = go (totals_refusal s)
  where
    go : (m : ℕ) → (totals_leaves m s).answer ≡ 0 → (totals_leaves m s).totals ≡ totals s.measures.first (sum_alone s) s.bath.temperature s.strengths
    go zero e = refl
    go (suc m) e = absurd (no_refusal m e)

-- an unflagged slot of an accepted run holds demand 2's strength
pub written_is : (r : Run) → IsAccepted r → (b j k : ℕ) → IsSlot (worked r) b j k
    → flagged (worked r).flags (slot (bands_of (worked r).tables.measures) b j k) ≡ false
    → written r (slot (bands_of (worked r).tables.measures) b j k) ≡ strength_at (worked r) b j k
unfolding joined_with
written_is (one s) a b j k i u =
    ap (λ l. at l (slot (bands_of s.tables.measures) b j k)) (triplet_left s a) ∙ strengths_at (of_triplet s) b j k i s.strengths u
written_is (joined s) a b j k i u =
    ap (λ o. at o.strengths (slot (bands_of s.tables.measures) b j k)) (joined_left_lem s a) ∙ strengths_at (of_joined s) b j k i s.strengths u
written_is (share s t) a b j k i u =
    ap (λ l. at l (t * slots s.tables.measures + slot (bands_of s.tables.measures) b j k)) (list_left s a.0)
    ∙ list_at s t _ a.1 (slot_lt (of_list s t) b j k i)
    ∙ strengths_at (of_list s t) b j k i (part (slots s.tables.measures) t s.strengths) u

-- (b, j, k) is a slot of the second run too
pub slot_second : (x y : Triplet) → Narrowed x y → (b j k : ℕ) → IsSlot x b j k → IsSlot y b j k
slot_second x y n b j k i =
    record { first = subst (λ m. b < m.first) n.measures i.first; second = subst (λ m. j < bands_of m) n.measures i.second; third = subst (λ m. k < bands_of m) n.measures i.third }

pub same_strength : (r r' : Run) → IsAccepted r → IsAccepted r' → Narrowed (worked r) (worked r') → (b j k : ℕ) → IsSlot (worked r) b j k
    → Kept (worked r) (worked r') b j k → SameStrength r r' b j k
same_strength r r' a a' n b j k i h =
    let p = written_is r a b j k i (kept_first (worked r) (worked r') n b j k h) in
    let q = written_is r' a' b j k (slot_second (worked r) (worked r') n b j k i) h.unflagged in
    record { first = p; second = q; same = p ∙ kept_strength (worked r) (worked r') n b j k h ∙ sym q }

-- ---- totals

-- what two sums have alike for their totals of position b to be the same
pub record SameSum (s s' : Sum) (v v' : List Float) (b : ℕ) : Type 0 where
  pub counts : (j k : ℕ) → j < s.bands → k < s.bands → counted s b j k ≡ counted s' b j k
  pub strength : (j k : ℕ) → j < s.bands → k < s.bands → counted s b j k ≡ true → at v (slot s.bands b j k) ≡ at v' (slot s.bands b j k)
  pub second : (j k : ℕ) → j < s.bands → k < s.bands → counted s b j k ≡ true → second1 s j ≡ second1 s' j
  pub third : (j k : ℕ) → j < s.bands → k < s.bands → counted s b j k ≡ true → third2 s k ≡ third2 s' k

step_same : (a a' : Bool) (t x x' : Float) → a ≡ a' → (a ≡ true → x ≡ x') → cond a (t ⊕ x) t ≡ cond a' (t ⊕ x') t
step_same true a' t x x' e f = ap (λ y. t ⊕ y) (f refl) ∙ ap (λ d. cond d (t ⊕ x') t) e
step_same false a' t x x' e f = ap (λ d. cond d (t ⊕ x') t) e

-- s with another sum's frequencies, flags, cutoff and points
abbrev moved : Sum → Sum → Sum
moved s z = record {
  weights = s.weights;
  bands = s.bands;
  points = z.points;
  frequencies = z.frequencies;
  cutoff = z.cutoff;
  flags = z.flags;
  weight = s.weight;
  first = s.first;
  second = s.second;
}

total_moved : (s z : Sum) (temperature : Float) (v v' : List Float) (b : ℕ) → SameSum s (moved s z) v v' b → total s temperature v b ≡ total (moved s z) temperature v' b
unfolding total slot_term
total_moved s z temperature v v' b r =
    fold_ext s.bands f0 _ _ (λ k lk u. fold_ext s.bands u _ _ (λ j lj sum.
    step_same _ _ sum _ _ (r.counts j k lj lk) (λ e. term_same j k (r.second j k lj lk e) (r.third j k lj lk e) (r.strength j k lj lk e))))
  where
    term_same : (j k : ℕ) → second1 s j ≡ second1 (moved s z) j → third2 s k ≡ third2 (moved s z) k → at v (slot s.bands b j k) ≡ at v' (slot s.bands b j k)
        → slot_term s temperature v b j k ≡ slot_term (moved s z) temperature v' b j k
    term_same j k p q e = cc

-- two sums that are alike in the rest
pub record SameRest (s s' : Sum) : Type 0 where
  pub weights : s.weights ≡ s'.weights
  pub bands : s.bands ≡ s'.bands
  pub weight : s.weight ≡ s'.weight
  pub first : s.first ≡ s'.first
  pub second : s.second ≡ s'.second

pub total_same : (s s' : Sum) (temperature : Float) (v v' : List Float) (b : ℕ) → SameRest s s' → SameSum s s' v v' b → total s temperature v b ≡ total s' temperature v' b
total_same s s' temperature v v' b r =
    subst (λ z. SameSum s z v v' b → total s temperature v b ≡ total z temperature v' b) path (total_moved s s' temperature v v' b)
  where
    path : moved s s' ≡ s'
    path = λ i. record {
      weights = r.weights i;
      bands = r.bands i;
      points = s'.points;
      frequencies = s'.frequencies;
      cutoff = s'.cutoff;
      flags = s'.flags;
      weight = r.weight i;
      first = r.first i;
      second = r.second i;
    }

pub totals_at : (F : ℕ) (s : Sum) (temperature : Float) (v : List Float) (b : ℕ) → b < F → at (totals F s temperature v) b ≡ total s temperature v b
unfolding totals
totals_at F s temperature v b l = table_at F b _ nan l

-- the totals that an accepted call leaves
pub alone_is : (s : TotalsSet) → (totals_outcome s).answer ≡ 0 → (b : ℕ) → b < s.measures.first
    → at (totals_outcome s).totals b ≡ total (sum_alone s) s.bath.temperature s.strengths b
alone_is s a b l = ap (λ x. at x b) (totals_left_lem s a) ∙ totals_at _ _ _ _ b l

pub joined_is : (s : JoinedSet) → IsAccepted (joined s) → (b : ℕ) → b < s.tables.measures.first
    → at (joined_outcome s).totals b ≡ total (sum_joined s) s.bath.temperature (strengths (of_joined s) s.strengths) b
unfolding joined_with
joined_is s a b l = ap (λ o. at o.totals b) (joined_left_lem s a) ∙ totals_at _ _ _ _ b l

-- .. of the strengths that it leaves
joined_own : (s : JoinedSet) → IsAccepted (joined s) → (b : ℕ) → b < s.tables.measures.first
    → at (joined_outcome s).totals b ≡ total (sum_joined s) s.bath.temperature (joined_outcome s).strengths b
unfolding joined_with
joined_own s a b l = joined_is s a b l ∙ sym (ap (λ o. total (sum_joined s) s.bath.temperature o.strengths b) (joined_left_lem s a))

pub same_alone : (s s' : TotalsSet) → (totals_outcome s).answer ≡ 0 → (totals_outcome s').answer ≡ 0 → SameElse s s'
    → (b : ℕ) → b < s.measures.first
    → ((j k : ℕ) → j < 3 * s.measures.atoms → k < 3 * s.measures.atoms → counted (sum_alone s) b j k ≡ counted (sum_alone s') b j k)
    → ((j k : ℕ) → j < 3 * s.measures.atoms → k < 3 * s.measures.atoms → counted (sum_alone s) b j k ≡ true → SameSlot s s' b j k)
    → SameAlone s s' b
same_alone s s' a a' e b l counts same =
    let p = alone_is s a b l in
    let q = alone_is s' a' b (subst (λ m. b < m.first) e.measures l) in
    record {
      first = p;
      second = q;
      same = p
          ∙ total_same (sum_alone s) (sum_alone s') s.bath.temperature s.strengths s'.strengths b rest (record {
            counts = counts;
            strength = λ j k p q c. (same j k p q c).strength;
            second = λ j k p q c. (same j k p q c).second;
            third = λ j k p q c. (same j k p q c).third;
          })
          ∙ (λ i. total (sum_alone s') (e.bath i).temperature s'.strengths b)
          ∙ sym q;
    }
  where
    rest : SameRest (sum_alone s) (sum_alone s')
    rest = record { weights = e.weights; bands = λ i. 3 * (e.measures i).atoms; weight = λ i. (e.bath i).weight; first = e.first; second = e.second }

pub same_total : (s s' : JoinedSet) → IsAccepted (joined s) → IsAccepted (joined s') → Narrowed (of_joined s) (of_joined s') → SameBath s s'
    → (b : ℕ) → b < s.tables.measures.first
    → ((j k : ℕ) → IsSlot (of_joined s) b j k → counted (sum_joined s) b j k ≡ counted (sum_joined s') b j k)
    → ((j k : ℕ) → IsSlot (of_joined s) b j k → counted (sum_joined s) b j k ≡ true → Kept (of_joined s) (of_joined s') b j k)
    → SameTotal s s' b
same_total s s' a a' n e b l counts kept =
    let l' = subst (λ m. b < m.first) n.measures l in
    record {
      first = joined_own s a b l;
      second = joined_own s' a' b l';
      same = joined_is s a b l
          ∙ total_same (sum_joined s) (sum_joined s') s.bath.temperature (strengths (of_joined s) s.strengths) (strengths (of_joined s') s'.strengths) b rest (record {
            counts = λ j k p q. counts j k (is j k p q);
            strength = λ j k p q c. of_slot j k (is j k p q) (kept j k (is j k p q) c);
            second = λ j k p q c. later j 1 (kept j k (is j k p q) c).stays1;
            third = λ j k p q c. later k 2 (kept j k (is j k p q) c).stays2;
          })
          ∙ (λ i. total (sum_joined s') (e.bath i).temperature (strengths (of_joined s') s'.strengths) b)
          ∙ sym (joined_is s' a' b l');
    }
  where
    rest : SameRest (sum_joined s) (sum_joined s')
    rest = record { weights = refl; bands = λ i. bands_of (n.measures i); weight = λ i. (e.bath i).weight; first = e.first; second = e.second }

    is : (j k : ℕ) → j < bands_of s.tables.measures → k < bands_of s.tables.measures → IsSlot (of_joined s) b j k
    is j k p q = record { first = l; second = p; third = q }

    later : (m x : ℕ) → Stays (of_joined s) (of_joined s') (point (of_joined s') x) m
        → at s.tables.phonons.frequencies (index (int s.triplet x) * bands_of s.tables.measures + m) ≡ at s'.tables.phonons.frequencies (index (int s'.triplet x) * bands_of s'.tables.measures + m)
    later m x h = (λ i. at s.tables.phonons.frequencies (index (int (n.points i) x) * bands_of (n.measures i) + m)) ∙ h.unchanged.frequency

    of_slot : (j k : ℕ) → IsSlot (of_joined s) b j k → Kept (of_joined s) (of_joined s') b j k
        → at (strengths (of_joined s) s.strengths) (slot (bands_of s.tables.measures) b j k) ≡ at (strengths (of_joined s') s'.strengths) (slot (bands_of s.tables.measures) b j k)
    of_slot j k i h =
        strengths_at (of_joined s) b j k i s.strengths (kept_first (of_joined s) (of_joined s') n b j k h) ∙ kept_strength (of_joined s) (of_joined s') n b j k h
        ∙ sym (strengths_at (of_joined s') b j k (slot_second (of_joined s) (of_joined s') n b j k i) s'.strengths h.unflagged)
        ∙ (λ i. at (strengths (of_joined s') s'.strengths) (slot (bands_of (sym n.measures i)) b j k))

-- ---- the claim

pub demand3 : Demand3
demand3 = record { strengths = same_strength; totals = same_total; alone = same_alone }
