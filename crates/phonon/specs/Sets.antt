-- What a door is handed, by document 01's names. A slice is a list: f64 as Float, i64 as ℤ, flag bytes as ℕ.
-- P = atoms, S = supercell, F = first, G = grid are the measures; B = 3 * P is the number of bands.
use Rattle.std.specs.Prelude.{ℕ, ◌+◌, ◌*◌, List, ℤ, take, drop, Float}
use Rattle.phonon.specs.declared.Measures.{Measures}
use Rattle.phonon.specs.declared.TotalsMeasures.{TotalsMeasures}
use Rattle.phonon.specs.declared.Settings.{Settings}
use Rattle.phonon.specs.declared.Form.{Form}
use Rattle.phonon.specs.declared.Symmetry.{Symmetry}
use Rattle.phonon.specs.declared.Weights.{Weights}
use Rattle.phonon.specs.declared.Bath.{Bath}

-- the force constants; R, the number of their rows, is P if compact and S if full
pub record Forces : Type 0 where
  pub form : Form
  -- p2s_map and s2p_map
  pub p2s : List ℤ
  pub s2p : List ℤ
  -- all_shortest, of atom i, supercell atoms j and k: entry (i * S + j) * S + k
  pub shortest : List ℕ
  -- nonzero_indices, of row i, supercell atoms j and k: the same
  pub nonzero : List ℕ
  -- element l * 9 + m * 3 + n of row i, supercell atoms j and k: entry ((i * S + j) * S + k) * 27 + (l * 9 + m * 3 + n)
  pub constants : List Float

abbrev pub forces_of : Form → List ℤ → List ℤ → List ℕ → List ℕ → List Float → Forces
forces_of form p2s s2p shortest nonzero constants = record {
  form = form;
  p2s = p2s;
  s2p = s2p;
  shortest = shortest;
  nonzero = nonzero;
  constants = constants;
}

-- the rest of what is known of the atoms
pub record Crystal : Type 0 where
  -- vector v: entries 3 * v to 3 * v + 2
  pub vectors : List Float
  -- supercell atom j and atom i: the count is entry 2 * (j * P + i), the start the one behind it
  pub multiplicity : List ℤ
  pub masses : List Float
  pub forces : Forces

-- d_diag, q_mat by rows, and the grid points' addresses, three numbers each
pub record Grid : Type 0 where
  pub mesh : List ℤ
  pub matrix : List ℤ
  pub addresses : List ℤ

-- at grid point g, band n: the frequency is entry g * B + n, and component m of the eigenvector is complex number (g * B + m) * B + n
pub record Phonons : Type 0 where
  pub frequencies : List Float
  pub eigenvectors : List Float

-- what every door of the strengths is handed beside its triplets, their flags and the lent buffers
pub record Tables : Type 0 where
  pub measures : Measures
  pub settings : Settings
  pub symmetry : Symmetry
  pub crystal : Crystal
  pub grid : Grid
  pub bands : List ℤ
  pub phonons : Phonons

-- document 01: B
abbrev pub bands_of : Measures → ℕ
bands_of m = 3 * m.atoms

-- one triplet to be worked: the grid points of its three legs, and a flag for each slot
pub record Triplet : Type 0 where
  pub tables : Tables
  pub points : List ℤ
  pub flags : List ℕ

-- document 01: the number of slot (b, j, k) of B bands
abbrev pub slot : ℕ → ℕ → ℕ → ℕ → ℕ
slot B b j k = (b * B + j) * B + k

-- the number of slots: F * B * B
abbrev pub slots : Measures → ℕ
slots m = m.first * bands_of m * bands_of m

-- part t of a slice that holds n entries for each triplet
abbrev pub part : {A : Type 0} → ℕ → ℕ → List A → List A
part n t l = take n (drop (t * n) l)

-- ---- the four doors' sets. The strengths, the totals and the work buffer are as they are before the call.

-- one triplet: get_interaction_at_triplet
pub record TripletSet : Type 0 where
  pub tables : Tables
  pub triplet : List ℤ
  pub flags : List ℕ
  pub strengths : List Float
  pub work : List Float

-- a list of triplets: get_interaction. Triplet t has its points at 3 * t, its flags and its strengths at t * (F * B * B).
pub record ListSet : Type 0 where
  pub tables : Tables
  pub list : ℕ
  pub triplets : List ℤ
  pub flags : List ℕ
  pub strengths : List Float
  pub work : List Float

-- totals alone: imag_self_energy_at_triplet, with flags in place of g_pos. The strengths are for reading.
pub record TotalsSet : Type 0 where
  pub measures : TotalsMeasures
  pub weights : Weights
  pub triplet : List ℤ
  pub frequencies : List Float
  pub cutoff : Float
  pub flags : List ℕ
  pub strengths : List Float
  pub bath : Bath
  pub first : List Float
  pub second : List Float
  pub totals : List Float

-- one triplet and its totals joined
pub record JoinedSet : Type 0 where
  pub tables : Tables
  pub triplet : List ℤ
  pub flags : List ℕ
  pub bath : Bath
  pub first : List Float
  pub second : List Float
  pub strengths : List Float
  pub totals : List Float
  pub work : List Float

-- the measures of totals alone, as measures: it is handed no supercell and no vectors, and both stand at 1
abbrev pub measures_of : TotalsMeasures → Measures
measures_of m = record { atoms = m.atoms; supercell = 1; first = m.first; grid = m.grid; vectors = 1 }

-- ---- the triplet that each set has to be worked

abbrev pub of_triplet : TripletSet → Triplet
of_triplet s = record { tables = s.tables; points = s.triplet; flags = s.flags }

-- the one triplet of a joined set
abbrev pub triplet_of : JoinedSet → TripletSet
triplet_of s = record { tables = s.tables; triplet = s.triplet; flags = s.flags; strengths = s.strengths; work = s.work }

abbrev pub of_joined : JoinedSet → Triplet
of_joined s = record { tables = s.tables; points = s.triplet; flags = s.flags }

-- the share of triplet t of a list
abbrev pub of_list : ListSet → ℕ → Triplet
of_list s t = record {
  tables = s.tables;
  points = part 3 t s.triplets;
  flags = part (slots s.tables.measures) t s.flags;
}
