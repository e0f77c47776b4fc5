-- What the work needs of an accepted set: the ranges of its indices, and the room of its tables and of the work buffer.
use mathlib.Core.Path.{◌≡◌, refl, ap, ◌∙◌}
use mathlib.Core.List.{List, [], ◌∷◌}
use Prim.Native.Nat.{ℕ, zero, suc, ◌+◌, ◌*◌, ◌<◌, ◌≤◌}
use native.Mathlib.Nat.{mul-le-mul_right}
use native.Mathlib.Numerals.{add-one}
use native.Mathlib.Omega.{arith}
use lib.IntN.{ℤ}
use lib.ListN.{length}
use Rattle.phonon.specs.declared.Form.{Form}
use Rattle.phonon.specs.declared.Form.TheVariants.{Compact, Full}
use Rattle.phonon.specs.declared.Measures.{Measures}
use Rattle.phonon.specs.Number.{index, int}
use Rattle.phonon.specs.declared.Legs.{Legs}
use Rattle.phonon.specs.Sets.{TripletSet}
use Rattle.phonon.specs.Limits.{work_length, rows_of}
use Rattle.phonon.specs.Refusal.{points_ok, triplet_refusal}
use Rattle.phonon.proofs.Accepted.{Accepted, accepted_facts, index_below}
use Rattle.real_to_reciprocal.specs.Shape.{Ranged, Anchored, rows_for, Shaped}
use Rattle.real_to_normal.specs.Work.{end_at, work_end, Shapes, Frequencies, Eigenvectors, Slots}

rows_are : (form : Form) (m : Measures) → rows_of form m ≡ rows_for form m.atoms m.supercell
unfolding rows_of
rows_are Compact m = refl
rows_are Full m = refl

-- the layout fits into W numbers
pub end_fits : (P S : ℕ) → 1 ≤ P → end_at P S ≤ work_length P S
unfolding work_length
end_fits P S p =
    let b : P ≤ P * P = omega (arith, mul-le-mul_right P p) in
    let c : P * P ≤ P * P * P = omega (arith, mul-le-mul_right P b) in
    omega arith

-- past the end of a table stands 0
in_range : (G : ℕ) (l : List ℤ) → 0 < G → ((k : ℕ) → k < length l → index (int l k) < G) → (x : ℕ) → index (int l x) < G
in_range G [] p f x = p
in_range G (z ∷ l) p f zero = f 0 (omega arith)
in_range G (z ∷ l) p f (suc x) = in_range G l p (λ k h. f (suc k) (omega arith)) x

module _ (s : TripletSet) (e : triplet_refusal s ≡ 0) where
  abbrev P : ℕ
  P = s.tables.measures.atoms

  abbrev S : ℕ
  S = s.tables.measures.supercell

  pub facts : Accepted s
  facts = accepted_facts s e

  pub ranged : Ranged s.tables.crystal.vectors s.tables.crystal.multiplicity (S * P)
  ranged =
      record {
        count = s.tables.measures.vectors;
        room = omega (arith, facts.sized.vectors);
        entries = omega (arith, facts.sized.multiplicity);
        ranges = facts.indexed.ranges;
      }

  pub anchored : Anchored s.tables.crystal.vectors s.tables.crystal.multiplicity s.tables.crystal.forces.p2s P
  anchored =
      record { supercell = S; some = facts.measured.supercell; atoms = facts.sized.p2s; anchors = facts.indexed.p2s; ranged = ranged }

  pub shaped : Shaped P S s.tables.crystal.forces
  shaped =
      record {
        some = facts.measured.supercell;
        atoms = facts.sized.p2s;
        supercell = facts.sized.s2p;
        anchors = facts.indexed.p2s;
        shortest = facts.sized.shortest;
        nonzero = facts.sized.nonzero ∙ ap (λ (r : ℕ). r * S * S) (rows_are s.tables.crystal.forces.form s.tables.measures);
        constants = facts.sized.constants ∙ ap (λ (r : ℕ). r * S * S * 27) (rows_are s.tables.crystal.forces.form s.tables.measures);
      }

  pub shapes : Shapes s.tables
  shapes =
      record {
        atoms = omega (arith, facts.measured.atoms_most);
        supercell = omega (arith, facts.measured.supercell_most);
        anchored = anchored;
        shaped = shaped;
      }

  pub slots : Slots s.tables s.flags s.strengths
  slots =
      record { strengths = rw facts.sized.bands facts.strengths; flags = rw facts.sized.bands facts.flags; bands = facts.indexed.bands }

  pub masses_fit : P ≤ length s.tables.crystal.masses
  masses_fit = omega (arith, facts.sized.masses)

  pub room : work_end s.tables.measures ≤ length s.work
  room = omega (arith, end_fits P S facts.measured.atoms, facts.work)

  -- a grid point of the triplet
  module _ (x : ℕ) where
    abbrev g : ℕ
    g = index (int s.triplet x)

    pub point_lt : g < s.tables.measures.grid
    unfolding points_ok
    point_lt = in_range s.tables.measures.grid s.triplet facts.measured.grid (index_below s.tables.measures.grid s.triplet facts.measured.grid facts.points) x

    pub address_fits : 3 * g + 3 ≤ length s.tables.grid.addresses
    address_fits = omega (arith, point_lt, facts.sized.addresses)

    pub frequency_fits : (g + 1) * (3 * P) ≤ length s.tables.phonons.frequencies
    frequency_fits =
        let a : (g + 1) * (3 * P) ≤ s.tables.measures.grid * (3 * P) = rw add-one (mul-le-mul_right (3 * P) point_lt) in
        omega (arith, facts.sized.frequencies)

    pub eigenvector_fits : 2 * ((g + 1) * (3 * P * (3 * P))) ≤ length s.tables.phonons.eigenvectors
    eigenvector_fits =
        let a : (g + 1) * (3 * P * (3 * P)) ≤ s.tables.measures.grid * (3 * P * (3 * P)) = rw add-one (mul-le-mul_right (3 * P * (3 * P)) point_lt) in
        omega (arith, facts.sized.eigenvectors)

  -- the grid points of the three legs
  module _ {p : Legs ℕ} (e0 : p.leg0 ≡ g 0) (e1 : p.leg1 ≡ g 1) (e2 : p.leg2 ≡ g 2) where
    pub frequencies_fit : Frequencies (3 * P) s.tables.phonons.frequencies p
    frequencies_fit =
        record { leg0 = rw e0 (frequency_fits 0); leg1 = rw e1 (frequency_fits 1); leg2 = rw e2 (frequency_fits 2) }

    pub eigenvectors_fit : Eigenvectors (3 * P) s.tables.phonons.eigenvectors p
    eigenvectors_fit =
        record { leg0 = rw e0 (eigenvector_fits 0); leg1 = rw e1 (eigenvector_fits 1); leg2 = rw e2 (eigenvector_fits 2) }
