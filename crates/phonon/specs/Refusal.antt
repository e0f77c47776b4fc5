-- Document 01, "Turned back at the door": each number is one test, true where the set passes, and of the tests that fail the lowest number is given.
-- Tests stand in groups by what they read, and a door has the groups of what it is handed: totals alone has no number 5, 6 and 9, and the doors without a
-- bath have no number 8. Each test is over just the slices that it reads.
use Rattle.std.specs.Prelude.{ℕ, zero, suc, ◌+◌, ◌-◌, ◌*◌, ◌<◌, ◌≡◌, Bool, true, false, not, cond, List, [], ◌∷◌, ◌++◌, leb, eqb, ℤ, pos, Float, length}
use Rattle.std.specs.Float.Ieee.{lt}
use Rattle.phonon.specs.declared.Measures.{Measures}
use Rattle.phonon.specs.declared.Symmetry.{Symmetry}
use Rattle.phonon.specs.declared.Bath.{Bath}
use Rattle.phonon.specs.declared.Sizes.{Sizes}
use Rattle.phonon.specs.Number.{f0, index, at, int}
use Rattle.phonon.specs.Trig.{in_domain}
use Rattle.phonon.specs.Tests.{all_true, every_below, finite, sign_bit, all_finite, all_within, vector_range}
use Rattle.phonon.specs.declared.Legs.{Legs}
use Rattle.phonon.specs.Sets.{Crystal, Grid, Phonons, Tables, bands_of, slots, Triplet, TripletSet, ListSet, TotalsSet, JoinedSet, measures_of, of_triplet, triplet_of, of_list}
use Rattle.phonon.specs.Limits.{atoms_ok, supercell_ok, first_ok, grid_ok, vectors_ok, list_ok, lowest_address, highest_address, lowest_mesh, highest_mesh, lowest_matrix, highest_matrix, weight_ok, sizes_of, entries_of}
use Rattle.phonon.specs.RealToReciprocal.{phase, pre_phase, anchor_vector}
use Rattle.phonon.specs.Interaction.{exchanged, order_count, leg_q}

-- ---- the number that is given

-- a number and its test
pub record Test : Type 0 where
  pub number : ℕ
  pub good : Bool

-- the lower of two numbers, of which 0 is none
unfoldable pub lower : ℕ → ℕ → ℕ
lower zero k = k
lower (suc n) zero = suc n
lower (suc n) (suc k) = cond (leb n k) (suc n) (suc k)

-- the lowest number of the tests that fail, and 0 where none does
unfoldable pub lowest : List Test → ℕ
lowest [] = 0
lowest (t ∷ ts) = cond t.good (lowest ts) (lower t.number (lowest ts))

-- a test of number n fails
abbrev pub fails : ℕ → List Test → Bool
fails n [] = false
fails n (t ∷ ts) = cond t.good (fails n ts) (cond (eqb t.number n) true (fails n ts))

-- document 01's rule: a number is given exactly if its condition holds and no lower one does. So it is with `lowest`, for any tests (`exact`, `exactly` in proofs/Lowest.antt).
pub record Exactly (n : ℕ) (ts : List Test) : Type 0 where
  pub some : fails n ts ≡ true
  pub none_lower : (k : ℕ) → 0 < k → k < n → fails k ts ≡ false

-- ---- 1, measure: P, S, F, G, vectors or list beyond its limits

unfoldable pub measures_ok : Measures → Bool
measures_ok m =
    all_true (atoms_ok m.atoms ∷ supercell_ok m.supercell ∷ first_ok m.atoms m.first ∷ grid_ok m.grid ∷ vectors_ok m.vectors ∷ [])

-- ---- 2, length: a slice of the wrong length, or work buffer too short

-- the tables' slices
unfoldable pub table_lengths : Measures → Sizes → Crystal → List ℤ → List ℤ → Phonons → List Bool
table_lengths m z c addresses bands p =
    eqb (length addresses) z.addresses
    ∷ eqb (length c.vectors) z.vectors
    ∷ eqb (length c.multiplicity) z.multiplicity
    ∷ eqb (length c.forces.p2s) m.atoms
    ∷ eqb (length c.forces.s2p) m.supercell
    ∷ eqb (length c.masses) m.atoms
    ∷ eqb (length bands) m.first
    ∷ eqb (length p.frequencies) z.frequencies
    ∷ eqb (length p.eigenvectors) z.eigenvectors
    ∷ eqb (length c.forces.shortest) z.shortest
    ∷ eqb (length c.forces.nonzero) z.nonzero
    ∷ eqb (length c.forces.constants) z.constants
    ∷ []

-- flags and strengths of n slots, and the work buffer, by their lengths
unfoldable pub buffer_lengths : ℕ → Sizes → ℕ → ℕ → ℕ → List Bool
buffer_lengths n z flags strengths work = eqb flags n ∷ eqb strengths n ∷ leb z.work work ∷ []

-- first and second weights of n entries, and totals of F first bands, by their lengths
unfoldable pub bath_lengths : ℕ → ℕ → ℕ → ℕ → ℕ → List Bool
bath_lengths n F first second totals = eqb first n ∷ eqb second n ∷ eqb totals F ∷ []

-- what totals alone has besides: frequencies, flags of n entries, and strengths, by their lengths
unfoldable pub alone_lengths : Measures → ℕ → ℕ → ℕ → ℕ → List Bool
alone_lengths m n frequencies flags strengths = eqb frequencies (m.grid * bands_of m) ∷ eqb flags n ∷ eqb strengths (slots m) ∷ []

-- ---- 3, index: triplet not in 0 to G - 1, p2s or s2p not in 0 to S - 1, band not in 0 to B - 1, or a vector range outside the vectors

unfoldable pub points_ok : ℕ → List ℤ → Bool
points_ok G points = all_within (pos 0) (pos (G - 1)) points

unfoldable pub ranges_ok : ℕ → ℕ → List ℤ → Bool
ranges_ok vectors entries multiplicity = every_below (λ n. vector_range vectors (int multiplicity (2 * n)) (int multiplicity (2 * n + 1))) entries

unfoldable pub indices_ok : Measures → List ℤ → List ℤ → List ℤ → List ℤ → Bool
indices_ok m multiplicity p2s s2p bands =
    all_true
    (all_within (pos 0) (pos (m.supercell - 1)) p2s
    ∷ all_within (pos 0) (pos (m.supercell - 1)) s2p
    ∷ all_within (pos 0) (pos (bands_of m - 1)) bands
    ∷ ranges_ok m.vectors (m.supercell * m.atoms) multiplicity
    ∷ [])

-- ---- 4, not finite: any f64 handed in for reading

unfoldable pub tables_finite : Float → List Float → List Float → List Float → List Float → List Float → Bool
tables_finite cutoff vectors masses frequencies eigenvectors constants =
    all_true
    (finite cutoff
    ∷ all_finite vectors
    ∷ all_finite masses
    ∷ all_finite frequencies
    ∷ all_finite eigenvectors
    ∷ all_finite constants
    ∷ [])

-- the temperature, the first and the second weights
unfoldable pub bath_finite : Bath → List Float → List Float → Bool
bath_finite h first second = all_true (finite h.temperature ∷ all_finite first ∷ all_finite second ∷ [])

unfoldable pub alone_finite : Float → List Float → List Float → Bool
alone_finite cutoff frequencies strengths = all_true (finite cutoff ∷ all_finite frequencies ∷ all_finite strengths ∷ [])

-- ---- 5, mesh: address, mesh or q matrix beyond its limits

unfoldable pub mesh_ok : Grid → Bool
mesh_ok g =
    all_true
    (all_within lowest_mesh highest_mesh g.mesh
    ∷ all_within lowest_matrix highest_matrix g.matrix
    ∷ all_within lowest_address highest_address g.addresses
    ∷ [])

-- ---- 6, mass: zero or below

unfoldable pub masses_ok : List Float → Bool
masses_ok masses = every_below (λ a. lt f0 (at masses a)) (length masses)

-- ---- 7, cutoff: below zero

unfoldable pub cutoff_ok : Float → Bool
cutoff_ok cutoff = not (lt cutoff f0)

-- ---- 8, bath: weight beyond its limits, or temperature with its sign bit set

unfoldable pub bath_ok : Bath → Bool
bath_ok h = all_true (weight_ok h.weight ∷ not (sign_bit h.temperature) ∷ [])

-- ---- 9, phase: any phase the source computes for the set is beyond ±1,048,576 or not finite

-- of each vector of the first n entries of the multiplicities, at one q
unfoldable pub leg_phases_ok : List Float → List ℤ → ℕ → List Float → Bool
leg_phases_ok vectors multiplicity n q =
    every_below (λ k. every_below (λ i. in_domain (phase q vectors (index (int multiplicity (2 * k + 1)) + i))) (index (int multiplicity (2 * k)))) n

-- of each of P atoms, with the three q in one order
unfoldable pub pre_phases_ok : ℕ → List Float → List ℤ → List ℤ → Legs (List Float) → Bool
pre_phases_ok P vectors multiplicity p2s q = every_below (λ i. in_domain (pre_phase vectors q (anchor_vector P multiplicity p2s i))) P

-- of every order of the legs that is used
unfoldable pub orders_ok : ℕ → Symmetry → List Float → List ℤ → List ℤ → Legs (List Float) → Bool
orders_ok P symmetry vectors multiplicity p2s q = every_below (λ o. pre_phases_ok P vectors multiplicity p2s (exchanged o q)) (order_count symmetry)

-- of P atoms, S supercell atoms and the three legs' q
unfoldable pub phases_ok : ℕ → ℕ → Symmetry → List Float → List ℤ → List ℤ → Legs (List Float) → Bool
phases_ok P S symmetry vectors multiplicity p2s q =
    all_true
    (leg_phases_ok vectors multiplicity (S * P) q.leg0
    ∷ leg_phases_ok vectors multiplicity (S * P) q.leg1
    ∷ leg_phases_ok vectors multiplicity (S * P) q.leg2
    ∷ orders_ok P symmetry vectors multiplicity p2s q
    ∷ [])

-- ---- the groups, each with its numbers

-- 1 to 7, of the tables
abbrev pub table_tests : Measures → Float → Crystal → Grid → List ℤ → Phonons → List Test
table_tests m cutoff c g bands p =
    record { number = 1; good = measures_ok m }
    ∷ record { number = 2; good = all_true (table_lengths m (sizes_of m c.forces.form) c g.addresses bands p) }
    ∷ record { number = 3; good = indices_ok m c.multiplicity c.forces.p2s c.forces.s2p bands }
    ∷ record { number = 4; good = tables_finite cutoff c.vectors c.masses p.frequencies p.eigenvectors c.forces.constants }
    ∷ record { number = 5; good = mesh_ok g }
    ∷ record { number = 6; good = masses_ok c.masses }
    ∷ record { number = 7; good = cutoff_ok cutoff }
    ∷ []

-- 1 and 2, of a list of n triplets
abbrev pub count_tests : ℕ → List ℤ → List Test
count_tests n triplets = record { number = 1; good = list_ok n } ∷ record { number = 2; good = eqb (length triplets) (3 * n) } ∷ []

-- 2, of what has n slots, and of the work buffer
abbrev pub slot_tests : ℕ → Sizes → ℕ → ℕ → ℕ → List Test
slot_tests n z flags strengths work = record { number = 2; good = all_true (buffer_lengths n z flags strengths work) } ∷ []

-- 3, of the triplets' grid points
abbrev pub point_tests : ℕ → List ℤ → List Test
point_tests G points = record { number = 3; good = points_ok G points } ∷ []

-- 2, 4 and 8, of the bath, the weights and the totals
abbrev pub bath_tests : ℕ → ℕ → Bath → List Float → List Float → ℕ → List Test
bath_tests n F h first second totals =
    record { number = 2; good = all_true (bath_lengths n F (length first) (length second) totals) }
    ∷ record { number = 4; good = bath_finite h first second }
    ∷ record { number = 8; good = bath_ok h }
    ∷ []

-- 1, 2, 4 and 7, of what totals alone has in place of the tables
abbrev pub alone_tests : Measures → ℕ → List Float → Float → List ℕ → List Float → List Test
alone_tests m n frequencies cutoff flags strengths =
    record { number = 1; good = measures_ok m }
    ∷ record { number = 2; good = all_true (alone_lengths m n (length frequencies) (length flags) (length strengths)) }
    ∷ record { number = 4; good = alone_finite cutoff frequencies strengths }
    ∷ record { number = 7; good = cutoff_ok cutoff }
    ∷ []

-- 9
abbrev pub phase_tests : Bool → List Test
phase_tests good = record { number = 9; good = good } ∷ []

-- ---- the four doors

abbrev pub sizes : Tables → Sizes
sizes t = sizes_of t.measures t.crystal.forces.form

-- the groups of a whole set

abbrev pub tests_of : Tables → List Test
tests_of t = table_tests t.measures t.settings.cutoff t.crystal t.grid t.bands t.phonons

abbrev pub triplet_phases : Triplet → Bool
triplet_phases t =
    phases_ok t.tables.measures.atoms t.tables.measures.supercell t.tables.symmetry t.tables.crystal.vectors t.tables.crystal.multiplicity t.tables.crystal.forces.p2s (leg_q t)

abbrev pub entries : TotalsSet → ℕ
entries s = entries_of s.weights s.measures.first (3 * s.measures.atoms)

-- 1 to 7, and 9
abbrev pub triplet_tests : TripletSet → List Test
triplet_tests s =
    tests_of s.tables
    ++ slot_tests (sizes s.tables).slots (sizes s.tables) (length s.flags) (length s.strengths) (length s.work)
    ++ point_tests s.tables.measures.grid s.triplet
    ++ phase_tests (triplet_phases (of_triplet s))

-- 1 to 7, and 9: the list is tested whole
abbrev pub list_tests : ListSet → List Test
list_tests s =
    count_tests s.list s.triplets
    ++ tests_of s.tables
    ++ slot_tests (s.list * (sizes s.tables).slots) (sizes s.tables) (length s.flags) (length s.strengths) (length s.work)
    ++ point_tests s.tables.measures.grid s.triplets
    ++ phase_tests (every_below (λ t. triplet_phases (of_list s t)) s.list)

-- 1 to 4, 7 and 8
abbrev pub totals_tests : TotalsSet → List Test
totals_tests s =
    alone_tests (measures_of s.measures) (entries s) s.frequencies s.cutoff s.flags s.strengths
    ++ point_tests s.measures.grid s.triplet
    ++ bath_tests (entries s) s.measures.first s.bath s.first s.second (length s.totals)

-- 1 to 9
abbrev pub joined_tests : JoinedSet → List Test
joined_tests s =
    triplet_tests (triplet_of s)
    ++ bath_tests (sizes s.tables).slots s.tables.measures.first s.bath s.first s.second (length s.totals)

unfoldable pub triplet_refusal : TripletSet → ℕ
triplet_refusal s = lowest (triplet_tests s)

unfoldable pub list_refusal : ListSet → ℕ
list_refusal s = lowest (list_tests s)

unfoldable pub totals_refusal : TotalsSet → ℕ
totals_refusal s = lowest (totals_tests s)

unfoldable pub joined_refusal : JoinedSet → ℕ
joined_refusal s = lowest (joined_tests s)
