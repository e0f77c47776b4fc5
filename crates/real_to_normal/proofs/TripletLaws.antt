-- The slots as the work leaves them are the definition's strengths, and the work buffer is the definition's.
use mathlib.Core.Path.{◌≡◌, refl, sym, ap, ap₂, ◌∙◌}
use mathlib.Core.Bool.{Bool, true, false, cond}
use mathlib.Core.List.{List, [], ◌++◌}
use Prim.Native.Nat.{ℕ, ◌+◌, ◌-◌, ◌*◌, ◌/◌, ◌%◌, ◌<◌, ◌≤◌}
use native.Mathlib.Omega.{arith}
use lib.IntN.{pos}
use lib.ListN.{length, get_or, take, drop, replicate}
use lib.Ieee.{Float, nan}
use Rattle.phonon.specs.declared.Measures.{Measures}
use Rattle.phonon.specs.declared.Symmetry.{Symmetry}
use Rattle.phonon.specs.declared.Symmetry.TheVariants.{Off, Symmetrized}
use Rattle.phonon.specs.Number.{◌⊕◌, ◌⊘◌, f0, f6, at, flagged, fold, table}
use Rattle.phonon.specs.declared.Legs.{Legs}
use Rattle.phonon.specs.Sets.{Tables, Triplet, slots}
use Rattle.phonon.specs.Tests.{all_within}
use Rattle.phonon.specs.RealToReciprocal.{q_at}
use Rattle.phonon.specs.ReciprocalToNormal.{inverse_roots, Phonon, phonon_at, strength}
use Rattle.phonon.specs.Interaction.{orders, leg, exchanged, leg_q, point, order_count, reciprocals, sixth, value, flagged_value, phonons_at, strength_with, slot_with, strengths_with, strengths}
use Rattle.phonon.specs.Limits.{work_length}
use Rattle.phonon.specs.Doors.{cleared}
use Rattle.phonon.proofs.Laws.{fold_ext, table_ext, table_at, part_at}
use Rattle.planes.specs.Region.{SameOutside}
use Rattle.planes.proofs.WorkLaws.{drop_outside}
use Rattle.reciprocal_to_normal.specs.Slots.{b_of, j_of, k_of}
use Rattle.reciprocal_to_normal.proofs.SlotLaws.{slot_of}
use Rattle.real_to_normal.proofs.AcceptedLaws.{end_fits}
use Rattle.real_to_normal.specs.Work.{work_end, slot_count, Prepared, reciprocal_of, leg_in, slot_in, sixth_of, slot_phonons, slot_value}
use Rattle.real_to_normal.proofs.SlotLaws.{slot_bands}

-- ---- what the legs that were prepared hold are the definition's phonons

module _ (t : Tables) (g : Legs ℕ) (q : Legs (List Float)) {l : List Float} (h : Prepared l t g q) where
  abbrev P : ℕ
  P = t.measures.atoms

  leg_phonon : (x n : ℕ) → x < 3 → n < 3 * P → leg_in l P t.phonons.frequencies g x n ≡ phonon_at (3 * P) (inverse_roots P t.crystal.masses) t.phonons (leg g x) n
  unfolding phonon_at
  leg_phonon x n p k =
      let f : at (take (3 * P) (drop (leg g x * (3 * P)) t.phonons.frequencies)) n ≡ at t.phonons.frequencies (leg g x * (3 * P) + n) =
      part_at t.phonons.frequencies (leg g x * (3 * P)) (3 * P) n nan k in
      λ i. record { frequency = f i; column = h.columns x n p k i }

  -- both ways of working leave the slots' values
  module _ (flags : List ℕ) (before : List Float) (p : 1 ≤ P) (w : all_within (pos 0) (pos (3 * P - 1)) t.bands ≡ true) where
    pub slot_phonons_lem : (m : ℕ) → m < slot_count t → slot_in l P t.phonons.frequencies g t.bands 0 1 2 m ≡ slot_phonons P (inverse_roots P t.crystal.masses) t.phonons g t.bands m
    slot_phonons_lem m k =
        let b = slot_bands P t.bands m p w k in
        let u = leg_phonon 0 _ (omega arith) (b 0) in
        let v = leg_phonon 1 _ (omega arith) (b 1) in
        let z = leg_phonon 2 _ (omega arith) (b 2) in
        λ i. record { leg0 = u i; leg1 = v i; leg2 = z i }

    abbrev valued : Symmetry → ℕ → Float
    valued y m = slot_value y (reciprocal_of t) P q (slot_phonons P (inverse_roots P t.crystal.masses) t.phonons g t.bands m) t.settings.cutoff flags (at before m) m

    pub off_values : {out : List Float} (y : Symmetry) → y ≡ Off → out ≡ table (slot_count t) (λ m. cond (flagged flags m) (at before m)
        (strength P (reciprocal_of t q) (slot_in l P t.phonons.frequencies g t.bands 0 1 2 m) t.settings.cutoff)) → out ≡ table (slot_count t) (valued y)
    unfolding slot_value
    off_values y e r = r ∙ table_ext (slot_count t) _ (valued Off) (λ m k. ap (λ s. cond (flagged flags m) (at before m) (strength P (reciprocal_of t q) s t.settings.cutoff)) (slot_phonons_lem m k))
        ∙ ap (λ z. table (slot_count t) (valued z)) (sym e)

    pub six_values : {out : List Float} (y : Symmetry) → y ≡ Symmetrized → out ≡ table (slot_count t) (λ m. cond (flagged flags m) f0 (fold 6 f0 (sixth_of t q l g m)))
        → out ≡ table (slot_count t) (valued y)
    unfolding slot_value sixth_of
    six_values y e r = r ∙ table_ext (slot_count t) _ (valued Symmetrized) (λ m k.
        ap (λ s. cond (flagged flags m) f0 (fold 6 f0 (λ o sum. sum ⊕ strength P (reciprocal_of t (exchanged o q)) (exchanged o s) t.settings.cutoff ⊘ f6))) (slot_phonons_lem m k))
        ∙ ap (λ z. table (slot_count t) (valued z)) (sym e)

-- ---- the definition's strengths

module _ (t : Triplet) (before : List Float) where
  abbrev m : ℕ
  m = t.tables.measures.atoms

  abbrev constants_at : Legs (List Float) → List Float
  constants_at = reciprocal_of t.tables

  order_constants : (o : ℕ) → o < order_count t.tables.symmetry → get_or (reciprocals t) o [] ≡ constants_at (exchanged o (leg_q t))
  unfolding reciprocals
  order_constants o h = table_at (order_count t.tables.symmetry) o _ [] h

  -- the value of one slot that is not flagged
  unflagged_value : (y : Symmetry) → t.tables.symmetry ≡ y → (s : Legs Phonon) (x : Float) (n : ℕ) → flagged t.flags n ≡ false
      → slot_value y constants_at m (leg_q t) s t.tables.settings.cutoff t.flags x n ≡ value y m (reciprocals t) s t.tables.settings.cutoff
  unfolding slot_value value sixth exchanged orders
  unflagged_value Off e s x n f =
      rw f (ap (λ r. strength m r s t.tables.settings.cutoff) (sym (order_constants 0 (rw e (omega arith)) ∙ ap constants_at exchange_none)))
    where
      exchange_none : exchanged 0 (leg_q t) ≡ leg_q t
      exchange_none = refl
  unflagged_value Symmetrized e s x n f =
      rw f (fold_ext 6 f0 _ _ (λ o h sum. ap (λ r. sum ⊕ strength m r (exchanged o s) t.tables.settings.cutoff ⊘ f6) (sym (order_constants o (rw e h)))))

  abbrev leg_points : Legs ℕ
  leg_points = record { leg0 = point t 0; leg1 = point t 1; leg2 = point t 2 }

  abbrev inverse : List Float
  inverse = inverse_roots m t.tables.crystal.masses

  -- the value of any slot
  any_value : (y : Symmetry) → t.tables.symmetry ≡ y → (s : Legs Phonon) (n : ℕ) (b : Bool) → flagged t.flags n ≡ b
      → slot_value y constants_at m (leg_q t) s t.tables.settings.cutoff t.flags (at before n) n
      ≡ cond b (flagged_value y (at before n)) (value y m (reciprocals t) s t.tables.settings.cutoff)
  unfolding slot_value
  any_value Off e s n true f = rw f
  any_value Symmetrized e s n true f = rw f
  any_value Off e s n false f = unflagged_value Off e s (at before n) n f
  any_value Symmetrized e s n false f = unflagged_value Symmetrized e s (at before n) n f

  slot_value_lem : (n : ℕ) → slot_value t.tables.symmetry constants_at m (leg_q t) (slot_phonons m inverse t.tables.phonons leg_points t.tables.bands n) t.tables.settings.cutoff t.flags (at before n) n
      ≡ slot_with t (reciprocals t) inverse before (n / (3 * m) / (3 * m)) (n / (3 * m) % (3 * m)) (n % (3 * m))
  unfolding slot_with strength_with phonons_at b_of j_of k_of
  slot_value_lem n =
      any_value t.tables.symmetry refl (slot_phonons m inverse t.tables.phonons leg_points t.tables.bands n) n (flagged t.flags n) refl
      ∙ ap (λ i. cond (flagged t.flags i) (flagged_value t.tables.symmetry (at before i)) (strength_with t (reciprocals t) inverse (n / (3 * m) / (3 * m)) (n / (3 * m) % (3 * m)) (n % (3 * m)))) (sym (slot_of (3 * m) n))

  pub strengths_are : {out : List Float} → length t.tables.bands ≡ t.tables.measures.first
      → out ≡ table (length t.tables.bands * (3 * m) * (3 * m)) (λ n. slot_value t.tables.symmetry constants_at m (leg_q t) (slot_phonons m inverse t.tables.phonons leg_points t.tables.bands n) t.tables.settings.cutoff t.flags (at before n) n)
      → out ≡ strengths t before
  unfolding strengths strengths_with
  strengths_are e r =
      r ∙ ap (λ (k : ℕ). table (k * (3 * m) * (3 * m)) (λ n. slot_value t.tables.symmetry constants_at m (leg_q t) (slot_phonons m inverse t.tables.phonons leg_points t.tables.bands n) t.tables.settings.cutoff t.flags (at before n) n)) e
      ∙ table_ext (slots t.tables.measures) _ _ (λ n h. slot_value_lem n)

  -- the same, with the legs' points and q as the work has them
  pub strengths_from : {out : List Float} {g : Legs ℕ} {q : Legs (List Float)} → g.leg0 ≡ point t 0 → g.leg1 ≡ point t 1 → g.leg2 ≡ point t 2
      → q.leg0 ≡ q_at t.tables.grid g.leg0 → q.leg1 ≡ q_at t.tables.grid g.leg1 → q.leg2 ≡ q_at t.tables.grid g.leg2 → length t.tables.bands ≡ t.tables.measures.first
      → out ≡ table (slot_count t.tables) (λ n. slot_value t.tables.symmetry constants_at m q (slot_phonons m inverse t.tables.phonons g t.tables.bands n) t.tables.settings.cutoff t.flags (at before n) n)
      → out ≡ strengths t before
  strengths_from e0 e1 e2 h0 h1 h2 e r =
      let u0 = h0 ∙ ap (q_at t.tables.grid) e0 in
      let u1 = h1 ∙ ap (q_at t.tables.grid) e1 in
      let u2 = h2 ∙ ap (q_at t.tables.grid) e2 in
      strengths_are e (r ∙ ap₂ (λ (x : Legs ℕ) (y : Legs (List Float)). table (slot_count t.tables) (λ n. slot_value t.tables.symmetry constants_at m y (slot_phonons m inverse t.tables.phonons x t.tables.bands n) t.tables.settings.cutoff t.flags (at before n) n))
      (λ i. record { leg0 = e0 i; leg1 = e1 i; leg2 = e2 i }) (λ i. record { leg0 = u0 i; leg1 = u1 i; leg2 = u2 i }))

-- ---- the work buffer

pub cleared_is : {w w₁ out : List Float} {n : ℕ} (m : Measures) → 1 ≤ m.atoms → SameOutside w w₁ 0 (work_end m) → n ≡ work_length m.atoms m.supercell → out ≡ replicate n f0 ++ drop n w₁ → out ≡ cleared m w
unfolding cleared
cleared_is {w} {n = n} m p k e r =
    r ∙ ap (λ (d : List Float). replicate n f0 ++ d) (drop_outside k n (omega (arith, end_fits m.atoms m.supercell p, e))) ∙ ap (λ (x : ℕ). replicate x f0 ++ drop x w) e
