-- What an accepted set is known to be: each test of a refusal that is none holds, and each test gives its facts by name.
use Prim.Native.Nat.{ℕ, zero, suc, ◌+◌, ◌-◌, ◌*◌, ◌<◌, ◌≤◌}
use native.Mathlib.Omega.{arith}
use native.Mathlib.Decide.{dec_lt}
use native.Mathlib.Numerals.{add-one}
use mathlib.Core.Path.{◌≡◌, refl, sym, ap, ◌∙◌}
use mathlib.Core.Bool.{Bool, true, false, ◌&&◌, and-true, and-false, and_assoc}
use mathlib.Core.List.{List, [], ◌∷◌}
use borrow.Author.Tests.{leb-true, eqb-true}
use lib.Dec.{leb}
use lib.IntN.{ℤ, pos, negsuc}
use lib.ListN.{length}
use Rattle.phonon.specs.declared.Measures.{Measures}
use Rattle.phonon.specs.Number.{index, int}
use Rattle.phonon.specs.Tests.{all_true_after, all_true, every_below, measured, within, all_within}
use Rattle.phonon.specs.Sets.{Tables, bands_of, TripletSet}
use Rattle.phonon.specs.Limits.{work_length, rows_of, sizes_of}
use Rattle.phonon.specs.Refusal.{measures_ok, table_lengths, buffer_lengths, sizes, points_ok, ranges_ok, indices_ok, lowest, tests_of, triplet_refusal}
pub use Rattle.phonon.proofs.Laws.{and_both, both_and}
use Rattle.phonon.proofs.Lowest.{none_both, passing}

-- ---- tests that hold

after_is : (a : Bool) (bs : List Bool) → all_true_after a bs ≡ a && all_true bs
unfolding all_true_after all_true
after_is a [] = sym (and-true a)
after_is a (b ∷ bs) = after_is (a && b) bs ∙ and_assoc a b (all_true bs) ∙ ap (a &&◌) (sym (after_is b bs))

pub all_is : (b : Bool) (bs : List Bool) → all_true (b ∷ bs) ≡ b && all_true bs
unfolding all_true
all_is b bs = after_is b bs

pub all_first : (b : Bool) (bs : List Bool) → all_true (b ∷ bs) ≡ true → (b ≡ true) × (all_true bs ≡ true)
all_first b bs e = and_both b (all_true bs) (sym (all_is b bs) ∙ e)

-- each test of a list, one by one
abbrev pub Holds : List Bool → Type 0
Holds [] = Unit
Holds (b ∷ bs) = (b ≡ true) × Holds bs

pub holds : (bs : List Bool) → all_true bs ≡ true → Holds bs
holds [] e = tt
holds (b ∷ bs) e = let h = all_first b bs e in (h.0, holds bs h.1)

pub all_hold : (bs : List Bool) → Holds bs → all_true bs ≡ true
unfolding all_true
all_hold [] h = refl
all_hold (b ∷ bs) h = all_is b bs ∙ both_and h.0 (all_hold bs h.1)

pub every_at : (p : ℕ → Bool) (n k : ℕ) → every_below p n ≡ true → k < n → p k ≡ true
unfolding every_below
every_at p zero k e l = absurd (omega arith)
every_at p (suc n) k e l =
    let h = and_both (every_below p n) (p n) e in
    go (dec_lt k n) (every_at p n k h.0) h.1
  where
    go : Dec (k < n) → (k < n → p k ≡ true) → p n ≡ true → p k ≡ true
    go (yes m) f g = f m
    go (no m) f g = let q : k ≡ n = omega arith in rw q g

pub every_from : (p : ℕ → Bool) (n : ℕ) → ((k : ℕ) → k < n → p k ≡ true) → every_below p n ≡ true
unfolding every_below
every_from p zero h = refl
every_from p (suc n) h = both_and (every_from p n (λ k l. h k (omega arith))) (h n (omega arith))

pub every_none : (p : ℕ → Bool) → every_below p 0 ≡ true
unfolding every_below
every_none p = refl

-- one number more
pub every_next : (p : ℕ → Bool) (n : ℕ) → every_below p n ≡ true → p n ≡ true → every_below p (n + 1) ≡ true
unfolding every_below
every_next p n h e = rw add-one (both_and h e)

-- a fault below the end
pub every_bad : (p : ℕ → Bool) (n k : ℕ) → k < n → p k ≡ false → every_below p n ≡ false
unfolding every_below
every_bad p zero k l e = absurd (omega arith)
every_bad p (suc n) k l e = go (dec_lt k n) (λ m. every_bad p n k m e)
  where
    go : Dec (k < n) → (k < n → every_below p n ≡ false) → every_below p n && p n ≡ false
    go (yes m) f = rw (f m)
    go (no m) f = let q : n ≡ k = omega arith in rw (ap p q ∙ e) (and-false (every_below p n))

-- the bounds that a measure's test shows
pub measured_in : (low high n : ℕ) → measured low high n ≡ true → (low ≤ n) × (n ≤ high)
measured_in low high n e = let h = and_both (leb low n) (leb n high) e in (leb-true low n h.0, leb-true n high h.1)

-- an entry of a table whose entries are all from 0 to below n, as an index
pub index_below : (n : ℕ) (l : List ℤ) → 1 ≤ n → all_within (pos 0) (pos (n - 1)) l ≡ true → (k : ℕ) → k < length l → index (int l k) < n
unfolding all_within within
index_below n l h e k m = go (int l k) (every_at (λ i. within (pos 0) (pos (n - 1)) (int l i)) (length l) k e m)
  where
    go : (z : ℤ) → within (pos 0) (pos (n - 1)) z ≡ true → index z < n
    go (pos i) f = omega (arith, leb-true i (n - 1) (and_both (leb 0 i) (leb i (n - 1)) f).1)
    go (negsuc i) f = h

-- ---- the facts of accepted tables

-- the measures are within their limits
pub record Measured (m : Measures) : Type 0 where
  pub atoms : 1 ≤ m.atoms
  pub atoms_most : m.atoms ≤ 8
  pub supercell : 1 ≤ m.supercell
  pub supercell_most : m.supercell ≤ 64
  pub first : 1 ≤ m.first
  pub first_most : m.first ≤ 3 * m.atoms
  pub grid : 1 ≤ m.grid
  pub grid_most : m.grid ≤ 65536
  pub vectors : 1 ≤ m.vectors
  pub vectors_most : m.vectors ≤ 65536

pub measured_facts : (m : Measures) → measures_ok m ≡ true → Measured m
unfolding measures_ok
measured_facts m e =
    let h = holds _ e in
    let a = measured_in _ _ m.atoms h.0 in
    let b = measured_in _ _ m.supercell h.1.0 in
    let c = measured_in _ _ m.first h.1.1.0 in
    let d = measured_in _ _ m.grid h.1.1.1.0 in
    let f = measured_in _ _ m.vectors h.1.1.1.1.0 in
    record {
      atoms = a.0;
      atoms_most = a.1;
      supercell = b.0;
      supercell_most = b.1;
      first = c.0;
      first_most = c.1;
      grid = d.0;
      grid_most = d.1;
      vectors = f.0;
      vectors_most = f.1;
    }

-- each slice has its length
pub record TableSizes (t : Tables) : Type 0 where
  pub addresses : length t.grid.addresses ≡ 3 * t.measures.grid
  pub vectors : length t.crystal.vectors ≡ 3 * t.measures.vectors
  pub multiplicity : length t.crystal.multiplicity ≡ 2 * (t.measures.supercell * t.measures.atoms)
  pub p2s : length t.crystal.forces.p2s ≡ t.measures.atoms
  pub s2p : length t.crystal.forces.s2p ≡ t.measures.supercell
  pub masses : length t.crystal.masses ≡ t.measures.atoms
  pub bands : length t.bands ≡ t.measures.first
  pub frequencies : length t.phonons.frequencies ≡ t.measures.grid * bands_of t.measures
  pub eigenvectors : length t.phonons.eigenvectors ≡ 2 * (t.measures.grid * bands_of t.measures * bands_of t.measures)
  pub shortest : length t.crystal.forces.shortest ≡ t.measures.atoms * t.measures.supercell * t.measures.supercell
  pub nonzero : length t.crystal.forces.nonzero ≡ rows_of t.crystal.forces.form t.measures * t.measures.supercell * t.measures.supercell
  pub constants : length t.crystal.forces.constants ≡ rows_of t.crystal.forces.form t.measures * t.measures.supercell * t.measures.supercell * 27

-- the tests of the tables' lengths
abbrev pub lengths_of : Tables → List Bool
lengths_of t = table_lengths t.measures (sizes t) t.crystal t.grid.addresses t.bands t.phonons

pub size_facts : (t : Tables) → all_true (lengths_of t) ≡ true → TableSizes t
unfolding table_lengths sizes_of
size_facts t e =
    let h = holds _ e in
    record {
      addresses = eqb-true _ _ h.0;
      vectors = eqb-true _ _ h.1.0;
      multiplicity = eqb-true _ _ h.1.1.0;
      p2s = eqb-true _ _ h.1.1.1.0;
      s2p = eqb-true _ _ h.1.1.1.1.0;
      masses = eqb-true _ _ h.1.1.1.1.1.0;
      bands = eqb-true _ _ h.1.1.1.1.1.1.0;
      frequencies = eqb-true _ _ h.1.1.1.1.1.1.1.0;
      eigenvectors = eqb-true _ _ h.1.1.1.1.1.1.1.1.0;
      shortest = eqb-true _ _ h.1.1.1.1.1.1.1.1.1.0;
      nonzero = eqb-true _ _ h.1.1.1.1.1.1.1.1.1.1.0;
      constants = eqb-true _ _ h.1.1.1.1.1.1.1.1.1.1.1.0;
    }

-- each index is in its range
pub record Indexed (t : Tables) : Type 0 where
  pub p2s : all_within (pos 0) (pos (t.measures.supercell - 1)) t.crystal.forces.p2s ≡ true
  pub s2p : all_within (pos 0) (pos (t.measures.supercell - 1)) t.crystal.forces.s2p ≡ true
  pub bands : all_within (pos 0) (pos (bands_of t.measures - 1)) t.bands ≡ true
  pub ranges : ranges_ok t.measures.vectors (t.measures.supercell * t.measures.atoms) t.crystal.multiplicity ≡ true

-- the test of the tables' indices
abbrev pub indices_of : Tables → Bool
indices_of t = indices_ok t.measures t.crystal.multiplicity t.crystal.forces.p2s t.crystal.forces.s2p t.bands

pub index_facts : (t : Tables) → indices_of t ≡ true → Indexed t
unfolding indices_ok
index_facts t e =
    let h = holds _ e in
    record { p2s = h.0; s2p = h.1.0; bands = h.1.1.0; ranges = h.1.1.1.0 }

-- tables whose tests all pass
pub record TablesGood (t : Tables) : Type 0 where
  pub measures : measures_ok t.measures ≡ true
  pub measured : Measured t.measures
  pub sized : TableSizes t
  pub indexed : Indexed t

pub table_facts : (t : Tables) → lowest (tests_of t) ≡ 0 → TablesGood t
table_facts t e =
    let h = passing (tests_of t) refl e in
    record {
      measures = h.0;
      measured = measured_facts t.measures h.0;
      sized = size_facts t h.1.0;
      indexed = index_facts t h.1.1.0;
    }

-- an accepted set of one triplet
pub record Accepted (s : TripletSet) : Type 0 where
  pub measured : Measured s.tables.measures
  pub sized : TableSizes s.tables
  pub indexed : Indexed s.tables
  pub points : points_ok s.tables.measures.grid s.triplet ≡ true
  pub flags : length s.flags ≡ s.tables.measures.first * bands_of s.tables.measures * bands_of s.tables.measures
  pub strengths : length s.strengths ≡ s.tables.measures.first * bands_of s.tables.measures * bands_of s.tables.measures
  pub work : work_length s.tables.measures.atoms s.tables.measures.supercell ≤ length s.work

pub accepted_facts : (s : TripletSet) → triplet_refusal s ≡ 0 → Accepted s
unfolding triplet_refusal buffer_lengths sizes_of
accepted_facts s e =
    let a = none_both (tests_of s.tables) _ e in
    let t = table_facts s.tables a.0 in
    let g = passing _ refl a.1 in
    let h = holds _ g.0 in
    record {
      measured = t.measured;
      sized = t.sized;
      indexed = t.indexed;
      points = g.1.0;
      flags = eqb-true _ _ h.0;
      strengths = eqb-true _ _ h.1.0;
      work = leb-true _ _ h.1.1.0;
    }
