-- Document 01, "What each set may measure": the limits, and the length of each slice.
use Rattle.std.specs.Prelude.{ℕ, ◌+◌, ◌*◌, Bool, ℤ, pos, negsuc}
use Rattle.phonon.specs.declared.Measures.{Measures}
use Rattle.phonon.specs.declared.Form.{Form}
use Rattle.phonon.specs.declared.Form.TheVariants.{Compact, Full}
use Rattle.phonon.specs.declared.Weights.{Weights}
use Rattle.phonon.specs.declared.Weights.TheVariants.{PerSlot, AtFrequencyPoint}
use Rattle.phonon.specs.declared.Sizes.{Sizes}
use Rattle.phonon.specs.Sets.{bands_of, slots}
use Rattle.phonon.specs.Tests.{measured, within}

-- ---- measures, each from 1

abbrev pub atoms_ok : ℕ → Bool
atoms_ok P = measured 1 8 P

abbrev pub supercell_ok : ℕ → Bool
supercell_ok S = measured 1 64 S

-- of P atoms
abbrev pub first_ok : ℕ → ℕ → Bool
first_ok P F = measured 1 (3 * P) F

abbrev pub grid_ok : ℕ → Bool
grid_ok G = measured 1 65536 G

abbrev pub vectors_ok : ℕ → Bool
vectors_ok n = measured 1 65536 n

abbrev pub list_ok : ℕ → Bool
list_ok n = measured 1 4096 n

-- ---- numbers of the tables: from lowest to highest

abbrev pub lowest_address : ℤ
lowest_address = negsuc 1048575

abbrev pub highest_address : ℤ
highest_address = pos 1048576

abbrev pub lowest_mesh : ℤ
lowest_mesh = pos 1

abbrev pub highest_mesh : ℤ
highest_mesh = pos 4096

abbrev pub lowest_matrix : ℤ
lowest_matrix = negsuc 4095

abbrev pub highest_matrix : ℤ
highest_matrix = pos 4096

abbrev pub weight_ok : ℤ → Bool
weight_ok w = within (pos 1) (pos 2147483647) w

-- ---- lengths

-- document 01: W, of P atoms and S supercell atoms
unfoldable pub work_length : ℕ → ℕ → ℕ
work_length P S = 135 * (P * P * P) + 54 * (P * P) + 6 * P * S + 8 * P

-- R, the rows of the force constants
unfoldable pub rows_of : Form → Measures → ℕ
rows_of Compact m = m.atoms
rows_of Full m = m.supercell

unfoldable pub sizes_of : Measures → Form → Sizes
sizes_of m form = record {
  addresses = 3 * m.grid;
  vectors = 3 * m.vectors;
  multiplicity = 2 * (m.supercell * m.atoms);
  frequencies = m.grid * bands_of m;
  eigenvectors = 2 * (m.grid * bands_of m * bands_of m);
  shortest = m.atoms * m.supercell * m.supercell;
  nonzero = rows_of form m * m.supercell * m.supercell;
  slots = slots m;
  constants = rows_of form m * m.supercell * m.supercell * 27;
  work = work_length m.atoms m.supercell;
}

-- flags, first and second weights of totals alone, of F first bands and B bands
unfoldable pub entries_of : Weights → ℕ → ℕ → ℕ
entries_of PerSlot F B = F * B * B
entries_of AtFrequencyPoint F B = B * B
