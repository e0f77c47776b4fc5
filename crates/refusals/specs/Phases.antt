-- The phases of one triplet, and what makes the indices of the tests safe.
use Rattle.std.specs.Prelude.{ℕ, ◌+◌, ◌*◌, ◌<◌, ◌≤◌, Bool, List, ℤ, length}
use Rattle.phonon.specs.Number.{index, int}
use Rattle.phonon.specs.Sets.{Tables}
use Rattle.phonon.specs.Interaction.{legs_at}
use Rattle.phonon.specs.Refusal.{phases_ok}
use Rattle.real_to_reciprocal.specs.Shape.{Anchored, Ranged}

-- phases_ok of the triplet of these points
abbrev pub points_fine : Tables → List ℤ → Bool
points_fine t points = phases_ok t.measures.atoms t.measures.supercell t.symmetry t.crystal.vectors t.crystal.multiplicity t.crystal.forces.p2s (legs_at t.grid points)

-- ---- what makes the indices safe

-- the first n points are grid points, each with its address
pub record Located (n : ℕ) (points addresses : List ℤ) : Type 0 where
  pub enough : n ≤ length points
  pub addressed : (k : ℕ) → k < n → 3 * index (int points k) + 3 ≤ length addresses

-- so are they, and the tables have the vectors that their phases read
pub record Readable (t : Tables) (n : ℕ) (points : List ℤ) : Type 0 where
  pub located : Located n points t.grid.addresses
  pub ranged : Ranged t.crystal.vectors t.crystal.multiplicity (t.measures.supercell * t.measures.atoms)
  pub anchored : Anchored t.crystal.vectors t.crystal.multiplicity t.crystal.forces.p2s t.measures.atoms
