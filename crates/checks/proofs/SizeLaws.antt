-- Measures of at most 65,536: no product of theirs in a size wraps.
use Prim.Native.Nat.{ℕ, ◌*◌, ◌≤◌}
use native.Mathlib.Nat.{mul-le-mul}
use native.Mathlib.Omega.{arith}
use Rattle.phonon.specs.declared.Measures.{Measures}
use Rattle.phonon.specs.declared.Form.{Form}
use Rattle.phonon.specs.declared.Form.TheVariants.{Compact, Full}
use Rattle.phonon.specs.Limits.{rows_of}
use Rattle.checks.specs.Small.{Small}

rows_small : (m : Measures) (form : Form) → Small 65536 m → rows_of form m ≤ 65536
unfolding rows_of
rows_small m Compact h = h.atoms
rows_small m Full h = h.supercell

-- of P, S, F, G and the rows of the force constants
pub record Products (p s f g r : ℕ) : Type 0 where
  pub bands : 3 * p ≤ 196608
  pub frequencies : g * (3 * p) ≤ 65536 * 196608
  pub eigenvectors : g * (3 * p) * (3 * p) ≤ 65536 * 196608 * 196608
  pub entries : s * p ≤ 65536 * 65536
  pub atom_pairs : p * s ≤ 65536 * 65536
  pub shortest : p * s * s ≤ 65536 * 65536 * 65536
  pub row_pairs : r * s ≤ 65536 * 65536
  pub nonzero : r * s * s ≤ 65536 * 65536 * 65536
  pub row : f * (3 * p) ≤ 65536 * 196608
  pub slots : f * (3 * p) * (3 * p) ≤ 65536 * 196608 * 196608

pub products : (m : Measures) (form : Form) → Small 65536 m → Products m.atoms m.supercell m.first m.grid (rows_of form m)
products m form h =
    let bands : 3 * m.atoms ≤ 196608 = omega arith in
    let frequencies = mul-le-mul h.grid bands in
    let atom_pairs = mul-le-mul h.atoms h.supercell in
    let row_pairs = mul-le-mul (rows_small m form h) h.supercell in
    let row = mul-le-mul h.first bands in
    record {
      bands = bands;
      frequencies = frequencies;
      eigenvectors = mul-le-mul frequencies bands;
      entries = mul-le-mul h.supercell h.atoms;
      atom_pairs = atom_pairs;
      shortest = mul-le-mul atom_pairs h.supercell;
      row_pairs = row_pairs;
      nonzero = mul-le-mul row_pairs h.supercell;
      row = row;
      slots = mul-le-mul row bands;
    }
