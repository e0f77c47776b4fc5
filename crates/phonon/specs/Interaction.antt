-- interaction.rs: the strengths of one triplet, and of a list of triplets.
use Rattle.std.specs.Prelude.{ℕ, zero, suc, ◌/◌, ◌%◌, cond, List, [], ◌∷◌, ◌++◌, ℤ, Float, get_or}
use Rattle.phonon.specs.declared.Symmetry.{Symmetry}
use Rattle.phonon.specs.declared.Symmetry.TheVariants.{Off, Symmetrized}
use Rattle.phonon.specs.Number.{◌⊕◌, ◌⊘◌, f0, f6, index, at, int, flagged, fold, table}
use Rattle.phonon.specs.declared.Legs.{Legs}
use Rattle.phonon.specs.Sets.{Grid, bands_of, Triplet, slot, slots, part, ListSet, of_list}
use Rattle.phonon.specs.RealToReciprocal.{q_at, reciprocal}
use Rattle.phonon.specs.ReciprocalToNormal.{inverse_roots, Phonon, phonon_at, strength}

-- ---- INDEX_EXCHANGE: document 01's six leg orders

unfoldable pub orders : List (List ℕ)
orders =
    (0 ∷ 1 ∷ 2 ∷ [])
    ∷ (2 ∷ 0 ∷ 1 ∷ [])
    ∷ (1 ∷ 2 ∷ 0 ∷ [])
    ∷ (2 ∷ 1 ∷ 0 ∷ [])
    ∷ (0 ∷ 2 ∷ 1 ∷ [])
    ∷ (1 ∷ 0 ∷ 2 ∷ [])
    ∷ []

abbrev pub leg : {A : Type 0} → Legs A → ℕ → A
leg s zero = s.leg0
leg s (suc zero) = s.leg1
leg s (suc (suc n)) = s.leg2

-- legs x0, x1 and x2, in this order
abbrev pub picked : {A : Type 0} → Legs A → ℕ → ℕ → ℕ → Legs A
picked s x0 x1 x2 = record { leg0 = leg s x0; leg1 = leg s x1; leg2 = leg s x2 }

-- the legs in order number o of the table
unfoldable pub exchanged : {A : Type 0} → ℕ → Legs A → Legs A
exchanged o s = record {
  leg0 = leg s (get_or (get_or orders o []) 0 0);
  leg1 = leg s (get_or (get_or orders o []) 1 0);
  leg2 = leg s (get_or (get_or orders o []) 2 0);
}

-- how many orders are used: the first, which exchanges nothing, or all six
abbrev pub order_count : Symmetry → ℕ
order_count Off = 1
order_count Symmetrized = 6

-- ---- the strength of three phonons

-- the grid point of leg x
abbrev pub point : Triplet → ℕ → ℕ
point t x = index (int t.points x)

-- the q of three grid points, and of a triplet's three legs
abbrev pub legs_at : Grid → List ℤ → Legs (List Float)
legs_at g points = record { leg0 = q_at g (index (int points 0)); leg1 = q_at g (index (int points 1)); leg2 = q_at g (index (int points 2)) }

abbrev pub leg_q : Triplet → Legs (List Float)
leg_q t = legs_at t.tables.grid t.points

-- the force constants in reciprocal space, for each order that is used
unfoldable pub reciprocals : Triplet → List (List Float)
reciprocals t =
    table (order_count t.tables.symmetry) (λ o.
    reciprocal t.tables.measures.atoms t.tables.measures.supercell t.tables.settings.anchoring t.tables.crystal (exchanged o (leg_q t)))

-- a sixth of the strength in order o: the legs' phonons are exchanged as their q are
unfoldable pub sixth : ℕ → List (List Float) → Legs Phonon → Float → ℕ → Float
sixth P constants s cutoff o = strength P (get_or constants o []) (exchanged o s) cutoff ⊘ f6

unfoldable pub value : Symmetry → ℕ → List (List Float) → Legs Phonon → Float → Float
value Off P constants s cutoff = strength P (get_or constants 0 []) s cutoff
value Symmetrized P constants s cutoff = fold 6 f0 (λ o sum. sum ⊕ sixth P constants s cutoff o)

-- the phonons of slot (b, j, k): the band at position b of the bands table at the first leg's point, j at the second's, k at the third's
unfoldable pub phonons_at : Triplet → List Float → ℕ → ℕ → ℕ → Legs Phonon
phonons_at t inv b j k = record {
  leg0 = phonon_at (bands_of t.tables.measures) inv t.tables.phonons (point t 0) (index (int t.tables.bands b));
  leg1 = phonon_at (bands_of t.tables.measures) inv t.tables.phonons (point t 1) j;
  leg2 = phonon_at (bands_of t.tables.measures) inv t.tables.phonons (point t 2) k;
}

-- ---- get_interaction_at_triplet

-- the strength of slot (b, j, k): of the flags it reads none
unfoldable pub strength_with : Triplet → List (List Float) → List Float → ℕ → ℕ → ℕ → Float
strength_with t constants inv b j k =
    value t.tables.symmetry t.tables.measures.atoms constants (phonons_at t inv b j k) t.tables.settings.cutoff

unfoldable pub strength_at : Triplet → ℕ → ℕ → ℕ → Float
strength_at t = strength_with t (reciprocals t) (inverse_roots t.tables.measures.atoms t.tables.crystal.masses)

-- a flagged slot: 0.0 if symmetrized, and otherwise what stood there before
abbrev pub flagged_value : Symmetry → Float → Float
flagged_value Symmetrized old = f0
flagged_value Off old = old

unfoldable pub slot_with : Triplet → List (List Float) → List Float → List Float → ℕ → ℕ → ℕ → Float
slot_with t constants inv before b j k =
    cond (flagged t.flags (slot (bands_of t.tables.measures) b j k))
    (flagged_value t.tables.symmetry (at before (slot (bands_of t.tables.measures) b j k)))
    (strength_with t constants inv b j k)

-- slot number n is (n / B / B, n / B % B, n % B)
unfoldable pub strengths_with : Triplet → List (List Float) → List Float → List Float → List Float
strengths_with t constants inv before =
    table (slots t.tables.measures) (λ n.
    slot_with t constants inv before
    (n / bands_of t.tables.measures / bands_of t.tables.measures) (n / bands_of t.tables.measures % bands_of t.tables.measures) (n % bands_of t.tables.measures))

-- the strengths after the call, from those before it
unfoldable pub strengths : Triplet → List Float → List Float
strengths t before =
    strengths_with t (reciprocals t) (inverse_roots t.tables.measures.atoms t.tables.crystal.masses) before

-- ---- get_interaction: each triplet works its own part of the strengths

unfoldable pub list_strengths : ListSet → List Float
list_strengths s =
    fold s.list [] (λ t out. out ++ strengths (of_list s t) (part (slots s.tables.measures) t s.strengths))
