-- Closed cases beside document 01's key cases: they reach what cell U cannot show. The expected bits are the oracle's: its program
-- closed_cases makes the same tables by the same rules and prints what the Rust gives.
use Rattle.std.specs.Prelude.{ℕ, ◌+◌, ◌*◌, ◌/◌, ◌%◌, false, ◌&&◌, cond, List, [], ◌∷◌, ◌++◌, map, eqb, ltb, ℤ, pos, negsuc, Float, take, drop, replicate}
use Rattle.std.proofs.Math.IntN.{sub_ℕ}
use Rattle.std.specs.Float.{inf}
use Rattle.phonon.specs.declared.Complex.{Complex}
use Rattle.phonon.specs.declared.Anchoring.{Anchoring}
use Rattle.phonon.specs.declared.Form.{Form}
use Rattle.phonon.specs.declared.Symmetry.{Symmetry}
use Rattle.phonon.specs.declared.Symmetry.TheVariants.{Off, Symmetrized}
use Rattle.phonon.specs.declared.Weights.{Weights}
use Rattle.phonon.specs.declared.Weights.TheVariants.{PerSlot}
use Rattle.phonon.specs.declared.Anchoring.TheVariants.{Plain}
use Rattle.phonon.specs.declared.Form.TheVariants.{Compact, Full}
use Rattle.phonon.specs.Number.{◌⊘◌, bits, f0, f1, f2, f3, float, whole, at, table}
use Rattle.phonon.specs.Common.{cat, ctable}
use Rattle.phonon.specs.declared.Legs.{Legs}
use Rattle.phonon.specs.Sets.{Forces, Crystal, Grid, Phonons, Tables, TripletSet, ListSet, TotalsSet, JoinedSet}
use Rattle.phonon.specs.RealToReciprocal.{q_at, phase_factors, pre_factors, reciprocal_entry}
use Rattle.phonon.specs.ReciprocalToNormal.{inverse_roots, Phonon, phonon_at, strength}
use Rattle.phonon.specs.KeyCases.{minus0, minus1, half, f4, f16, among}

-- ---- made-up tables

-- number n of a table of whole numbers from -c to m - 1 - c
abbrev pub made : ℕ → ℕ → ℕ → ℕ → ℤ
made a m c n = sub_ℕ (n * a % m) c

-- n of them, as f64 over d
unfoldable pub made_over : ℕ → ℕ → ℕ → ℕ → ℕ → List Float
made_over n a m c d = table n (λ i. float (made a m c i) ⊘ whole d)

-- n frequencies, from 1.0 on in thirds
unfoldable pub made_frequencies : ℕ → List Float
made_frequencies n = table n (λ i. whole (i * 5 % 7 + 3) ⊘ whole 3)

-- n flags, set but at the numbers of l
unfoldable pub made_flags : ℕ → List ℕ → List ℕ
made_flags n l = table n (λ i. cond (among l i) 0 1)

-- ---- the force constants in reciprocal space of a crystal with 2 atoms and 3 supercell atoms; p2s is not the identity

unfoldable pub forces2 : Form → ℕ → Forces
forces2 form rows = record {
  form = form;
  p2s = pos 2 ∷ pos 0 ∷ [];
  s2p = pos 0 ∷ pos 0 ∷ pos 2 ∷ [];
  shortest = table 18 (λ n. n * 7 % 3);
  nonzero = table (rows * 9) (λ n. n * 5 % 4);
  constants = table (rows * 243) (λ n. float (made 37 101 50 n));
}

unfoldable pub crystal2 : Form → ℕ → Crystal
crystal2 form rows = record {
  vectors = made_over 12 5 11 5 8;
  multiplicity = pos 1 ∷ pos 0 ∷ pos 2 ∷ pos 1 ∷ pos 1 ∷ pos 3 ∷ pos 2 ∷ pos 0 ∷ pos 1 ∷ pos 2 ∷ pos 2 ∷ pos 2 ∷ [];
  masses = whole 3 ∷ whole 5 ∷ [];
  forces = forces2 form rows;
}

unfoldable pub grid3 : Grid
grid3 = record {
  mesh = pos 3 ∷ pos 5 ∷ pos 7 ∷ [];
  matrix = pos 1 ∷ pos 0 ∷ pos 2 ∷ pos 1 ∷ pos 1 ∷ pos 0 ∷ pos 0 ∷ pos 3 ∷ pos 1 ∷ [];
  addresses = table 9 (λ n. made 4 7 3 n);
}

-- some numbers of the list, from the tables of factors
unfoldable pub some_from : Anchoring → Forces → List Float → Legs (List Float) → List ℕ → List Complex
some_from a c pre legs places =
    map (reciprocal_entry 2 3 a c (record { pre = cat pre; legs = record { leg0 = cat legs.leg0; leg1 = cat legs.leg1; leg2 = cat legs.leg2 } })) places

unfoldable pub some : Anchoring → Crystal → Legs (List Float) → List ℕ → List Complex
some a c q =
    some_from a c.forces (pre_factors 2 c.vectors c.multiplicity c.forces.p2s q)
    (record { leg0 = phase_factors 2 3 c.vectors c.multiplicity q.leg0; leg1 = phase_factors 2 3 c.vectors c.multiplicity q.leg1; leg2 = phase_factors 2 3 c.vectors c.multiplicity q.leg2 })

-- the numbers that are compared, of atoms (0, 0, 1), (0, 1, 0), (0, 1, 1), (1, 0, 1), (1, 1, 0), (1, 1, 1)
unfoldable pub some2 : Anchoring → Form → ℕ → List Complex
some2 a form rows = some a (crystal2 form rows) (record { leg0 = q_at grid3 0; leg1 = q_at grid3 2; leg2 = q_at grid3 1 }) (32 ∷ 62 ∷ 101 ∷ 140 ∷ 170 ∷ 214 ∷ [])

-- ---- one strength of 2 atoms, at grid points 1, 0, 2 and bands 4, 1, 3

unfoldable pub strength_of2 : List Float → Phonons → Float
strength_of2 inv p =
    strength 2 (made_over 432 29 61 30 7) (record { leg0 = phonon_at 6 inv p 1 4; leg1 = phonon_at 6 inv p 0 1; leg2 = phonon_at 6 inv p 2 3 }) f1

unfoldable pub strength2 : Float
strength2 =
    strength_of2 (inverse_roots 2 (whole 3 ∷ whole 5 ∷ [])) (record { frequencies = made_frequencies 18; eigenvectors = made_over 216 17 23 11 3 })

-- ---- one strength of 1 atom, where an infinite constant meets a first-leg entry that is zero in both parts

unfoldable pub constants1 : List Float
constants1 = table 54 (λ i. cond (eqb i 8) (inf false) (cond (eqb i 9) f0 (cond (eqb (i % 2) 0) (float (made 29 61 30 (i / 2))) f1)))

unfoldable pub eigenvectors1 : List Float
eigenvectors1 = minus0 ∷ f0 ∷ f1 ∷ f2 ∷ f0 ∷ f1 ∷ f2 ∷ f0 ∷ f0 ∷ f3 ∷ f1 ∷ f1 ∷ f1 ∷ f0 ∷ f2 ∷ f1 ∷ f3 ∷ f0 ∷ []

unfoldable pub strength_of1 : List Float → Phonons → Float
strength_of1 inv p = strength 1 constants1 (record { leg0 = phonon_at 3 inv p 0 0; leg1 = phonon_at 3 inv p 0 1; leg2 = phonon_at 3 inv p 0 2 }) f1

unfoldable pub passed1 : Float
passed1 = strength_of1 (inverse_roots 1 (f3 ∷ [])) (record { frequencies = f2 ∷ f3 ∷ f4 ∷ []; eigenvectors = eigenvectors1 })

-- ---- one strength of 3 atoms, whose amplitude is a dot of nine terms

-- 2 ^ 53, to which 1 is lost
abbrev pub big : Float
big = bits 0x4340000000000000

-- Partial sums of neighbours, one running sum, the four joined in another way, or the ninth term in a partial sum: each has other bits.
abbrev pub nine : List Float
nine = big ∷ f1 ∷ f1 ∷ f1 ∷ f2 ∷ big ∷ f1 ∷ f1 ∷ f1 ∷ []

-- row 0 of the contracted force constants holds them, all else is 0.0
unfoldable pub constants9 : List Float
constants9 =
    table 1458 (λ i. cond (eqb (i % 2) 0 && ltb i 162 && ltb (i / 2 % 27) 3) (at nine (3 * (i / 54) + i / 2 % 27)) f0)

-- one phonon of frequency 1.0
abbrev pub of1 : List Float → Phonon
of1 column = record { frequency = f1; column = column }

unfoldable pub strength9 : Float
strength9 =
    strength 3 constants9 (record { leg0 = of1 (f1 ∷ replicate 17 f0); leg1 = of1 (f1 ∷ replicate 17 f0); leg2 = of1 (ctable 9 (λ m. record { re = f1; im = f0 })) }) half

-- ---- the doors on 1 atom and 2 supercell atoms

module _ (anchoring : Anchoring) (symmetry : Symmetry) (form : Form) (rows : ℕ) (s2p : List ℤ) where
  unfoldable pub tables1 : Tables
  tables1 = record {
    measures = record { atoms = 1; supercell = 2; first = 2; grid = 3; vectors = 3 };
    settings = record { anchoring = anchoring; cutoff = f1 };
    symmetry = symmetry;
    crystal = record {
      vectors = made_over 9 5 11 5 8;
      multiplicity = pos 2 ∷ pos 0 ∷ pos 1 ∷ pos 2 ∷ [];
      masses = f3 ∷ [];
      forces = record {
        form = form;
        p2s = pos 1 ∷ [];
        s2p = s2p;
        shortest = 1 ∷ 0 ∷ 0 ∷ 1 ∷ [];
        nonzero = table (rows * 4) (λ n. n * 5 % 4);
        constants = table (rows * 108) (λ n. float (made 37 101 50 n));
      };
    };
    grid = grid3;
    bands = pos 2 ∷ pos 0 ∷ [];
    phonons = record { frequencies = made_frequencies 9; eigenvectors = made_over 54 17 23 11 4 };
  }

abbrev pub points1 : List ℤ
points1 = pos 1 ∷ pos 0 ∷ pos 2 ∷ []

unfoldable pub joined1 : Anchoring → Form → ℕ → List ℕ → JoinedSet
joined1 anchoring form rows unflagged = record {
  tables = tables1 anchoring Off form rows (pos 1 ∷ pos 1 ∷ []);
  triplet = points1;
  flags = made_flags 18 unflagged;
  bath = record { weight = pos 5; temperature = f3 ⊘ f2 };
  first = made_over 18 7 13 4 3;
  second = made_over 18 11 17 6 3;
  strengths = replicate 18 minus1;
  totals = replicate 2 minus1;
  work = replicate 220 minus1;
}

-- at this slot the sum of the sixths rounds otherwise in another order of the legs
unfoldable pub symmetrized1 : TripletSet
symmetrized1 = record {
  tables = tables1 Plain Symmetrized Full 2 (pos 0 ∷ pos 1 ∷ []);
  triplet = pos 2 ∷ pos 0 ∷ pos 1 ∷ [];
  flags = made_flags 18 (3 ∷ []);
  strengths = replicate 18 minus1;
  work = replicate 220 minus1;
}

-- two triplets, with other points and other flags
unfoldable pub list1 : ListSet
list1 = record {
  tables = tables1 Plain Off Compact 1 (pos 0 ∷ pos 1 ∷ []);
  list = 2;
  triplets = points1 ++ pos 2 ∷ pos 1 ∷ pos 1 ∷ [];
  flags = made_flags 36 (8 ∷ 17 ∷ 23 ∷ 30 ∷ []);
  strengths = replicate 36 minus1;
  work = replicate 220 minus1;
}

unfoldable pub totals1 : Weights → ℕ → TotalsSet
totals1 weights entries = record {
  measures = record { atoms = 1; first = 2; grid = 3 };
  weights = weights;
  triplet = points1;
  frequencies = made_frequencies 9;
  cutoff = f1;
  flags = table entries (λ n. cond (eqb (n % 5) 3) 1 0);
  strengths = table 18 (λ n. whole (n * 5 % 19) ⊘ whole 3);
  bath = record { weight = pos 5; temperature = f3 ⊘ f2 };
  first = made_over entries 7 13 4 3;
  second = made_over entries 11 17 6 3;
  totals = replicate 2 minus1;
}

-- ---- a set of cell U's measures with one first band, each table altered: fs, zs and ns alter table number n where they are given its number

module _ (fs : ℕ → List Float → List Float) (zs : ℕ → List ℤ → List ℤ) (ns : ℕ → List ℕ → List ℕ) where
  unfoldable pub tables_u : Tables
  tables_u = record {
    measures = record { atoms = 1; supercell = 1; first = 1; grid = 1; vectors = 1 };
    settings = record { anchoring = Plain; cutoff = half };
    symmetry = Off;
    crystal = record {
      vectors = fs 1 (f0 ∷ f0 ∷ f0 ∷ []);
      multiplicity = zs 2 (pos 1 ∷ pos 0 ∷ []);
      masses = fs 3 (f4 ∷ []);
      forces = record {
        form = Compact;
        p2s = zs 4 (pos 0 ∷ []);
        s2p = zs 5 (pos 0 ∷ []);
        shortest = ns 6 (0 ∷ []);
        nonzero = ns 7 (1 ∷ []);
        constants = fs 8 (replicate 27 f16);
      };
    };
    grid = record {
      mesh = zs 20 (pos 1 ∷ pos 1 ∷ pos 1 ∷ []);
      matrix = zs 21 (pos 1 ∷ pos 0 ∷ pos 0 ∷ pos 0 ∷ pos 1 ∷ pos 0 ∷ pos 0 ∷ pos 0 ∷ pos 1 ∷ []);
      addresses = zs 9 (pos 0 ∷ pos 0 ∷ pos 0 ∷ []);
    };
    bands = zs 10 (pos 0 ∷ []);
    phonons = record { frequencies = fs 11 (f1 ∷ f2 ∷ f4 ∷ []); eigenvectors = fs 12 (replicate 18 f1) };
  }

  unfoldable pub triplet_u : TripletSet
  triplet_u = record { tables = tables_u; triplet = zs 22 (pos 0 ∷ pos 0 ∷ pos 0 ∷ []); flags = ns 13 (replicate 9 0); strengths = fs 14 (replicate 9 minus1); work = fs 15 (replicate 203 minus1) }

  unfoldable pub list_u : ListSet
  list_u = record {
    tables = tables_u;
    list = 2;
    triplets = zs 16 (replicate 6 (pos 0));
    flags = ns 13 (replicate 18 0);
    strengths = fs 14 (replicate 18 minus1);
    work = fs 15 (replicate 203 minus1);
  }

  unfoldable pub joined_u : JoinedSet
  joined_u = record {
    tables = tables_u;
    triplet = zs 22 (pos 0 ∷ pos 0 ∷ pos 0 ∷ []);
    flags = ns 13 (replicate 9 0);
    bath = record { weight = pos 3; temperature = f0 };
    first = fs 17 (replicate 9 f2);
    second = fs 18 (replicate 9 f0);
    strengths = fs 14 (replicate 9 minus1);
    totals = fs 19 (minus1 ∷ []);
    work = fs 15 (replicate 203 minus1);
  }

  unfoldable pub totals_u : TotalsSet
  totals_u = record {
    measures = record { atoms = 1; first = 1; grid = 1 };
    weights = PerSlot;
    triplet = zs 22 (pos 0 ∷ pos 0 ∷ pos 0 ∷ []);
    frequencies = fs 11 (f1 ∷ f2 ∷ f4 ∷ []);
    cutoff = half;
    flags = ns 13 (replicate 9 0);
    strengths = fs 14 (replicate 9 f0);
    bath = record { weight = pos 3; temperature = f0 };
    first = fs 17 (replicate 9 f2);
    second = fs 18 (replicate 9 f0);
    totals = fs 19 (minus1 ∷ []);
  }

-- table number n one shorter, or one longer
unfoldable pub shorter : {A : Type 0} → ℕ → ℕ → List A → List A
shorter n i l = cond (eqb n i) (drop 1 l) l

unfoldable pub longer : {A : Type 0} → ℕ → ℕ → List A → List A
longer n i l = cond (eqb n i) (take 1 l ++ l) l

-- table number n with this number in its first place
unfoldable pub starting : {A : Type 0} → A → ℕ → ℕ → List A → List A
starting x n i l = cond (eqb n i) (x ∷ drop 1 l) l

abbrev pub as_is : {A : Type 0} → ℕ → List A → List A
as_is i l = l

-- ---- cell U with three points whose q add up otherwise in another order, by which one pre-phase leaves the domain

unfoldable pub phases_u : Symmetry → TripletSet
phases_u symmetry = record {
  tables = record {
    measures = record { atoms = 1; supercell = 1; first = 1; grid = 3; vectors = 1 };
    settings = record { anchoring = Plain; cutoff = half };
    symmetry = symmetry;
    crystal = record {
      vectors = bits 0x40703dd44b2bf05b ∷ f0 ∷ f0 ∷ [];
      multiplicity = pos 1 ∷ pos 0 ∷ [];
      masses = f4 ∷ [];
      forces = record { form = Compact; p2s = pos 0 ∷ []; s2p = pos 0 ∷ []; shortest = 0 ∷ []; nonzero = 1 ∷ []; constants = replicate 27 f16 };
    };
    grid = record {
      mesh = pos 1452 ∷ pos 1 ∷ pos 1 ∷ [];
      matrix = pos 1 ∷ pos 0 ∷ pos 0 ∷ pos 0 ∷ pos 1 ∷ pos 0 ∷ pos 0 ∷ pos 0 ∷ pos 1 ∷ [];
      addresses = negsuc 290312 ∷ pos 0 ∷ pos 0 ∷ negsuc 664371 ∷ pos 0 ∷ pos 0 ∷ pos 22204 ∷ pos 0 ∷ pos 0 ∷ [];
    };
    bands = pos 0 ∷ [];
    phonons = record { frequencies = replicate 9 f1; eigenvectors = replicate 54 f1 };
  };
  triplet = pos 0 ∷ pos 1 ∷ pos 2 ∷ [];
  flags = replicate 9 0;
  strengths = replicate 9 minus1;
  work = replicate 203 minus1;
}
