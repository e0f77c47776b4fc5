-- What the tables that are handed in must measure.
use Rattle.std.specs.Prelude.{◌≡◌, true, List, ℕ, ◌-◌, ◌*◌, ◌≤◌, ℤ, pos, length, Float}
use Rattle.phonon.specs.declared.Form.{Form}
use Rattle.phonon.specs.declared.Form.TheVariants.{Compact, Full}
use Rattle.phonon.specs.Sets.{Forces}
use Rattle.phonon.specs.Tests.{all_within}
use Rattle.phonon.specs.Refusal.{ranges_ok}

-- each of the first n entries of the multiplicities is a range of the vectors
pub record Ranged (vectors : List Float) (multiplicity : List ℤ) (n : ℕ) : Type 0 where
  -- the number of vectors
  pub count : ℕ
  pub room : 3 * count ≤ length vectors
  pub entries : 2 * n ≤ length multiplicity
  pub ranges : ranges_ok count n multiplicity ≡ true

-- p2s has an entry for each of P atoms, the number of one of the supercell's atoms, which all have ranges of the vectors
pub record Anchored (vectors : List Float) (multiplicity p2s : List ℤ) (P : ℕ) : Type 0 where
  -- the number of supercell atoms
  pub supercell : ℕ
  pub some : 1 ≤ supercell
  pub atoms : length p2s ≡ P
  pub anchors : all_within (pos 0) (pos (supercell - 1)) p2s ≡ true
  pub ranged : Ranged vectors multiplicity (supercell * P)

-- the rows of the force constants
abbrev pub rows_for : Form → ℕ → ℕ → ℕ
rows_for Compact P S = P
rows_for Full P S = S

-- the force constants of P atoms and S supercell atoms, and the tables beside them
pub record Shaped (P S : ℕ) (c : Forces) : Type 0 where
  pub some : 1 ≤ S
  pub atoms : length c.p2s ≡ P
  pub supercell : length c.s2p ≡ S
  pub anchors : all_within (pos 0) (pos (S - 1)) c.p2s ≡ true
  pub shortest : length c.shortest ≡ P * S * S
  pub nonzero : length c.nonzero ≡ rows_for c.form P S * S * S
  pub constants : length c.constants ≡ rows_for c.form P S * S * S * 27
