-- Document 01's key cases: cell U with a change, and all that the joined door leaves.
-- Strengths, totals and work buffer stand at -1.0 before the call, and the work buffer has two numbers more than W.
use Rattle.std.specs.Prelude.{ℕ, ◌*◌, ◌||◌, false, Bool, cond, List, [], ◌∷◌, ◌++◌, ℤ, pos, eqb, length, replicate, set, Float}
use Rattle.phonon.specs.declared.Anchoring.{Anchoring}
use Rattle.phonon.specs.declared.Anchoring.TheVariants.{Plain, Averaged}
use Rattle.phonon.specs.declared.Form.TheVariants.{Compact}
use Rattle.phonon.specs.declared.Symmetry.{Symmetry}
use Rattle.phonon.specs.declared.Symmetry.TheVariants.{Off, Symmetrized}
use Rattle.phonon.specs.Number.{bits, f0, f1, f2, f3, table}
use Rattle.phonon.specs.Sets.{JoinedSet}
use Rattle.phonon.specs.Doors.{JoinedOutcome}

-- ---- the numbers of the cases

abbrev pub minus1 : Float
minus1 = bits 0xbff0000000000000

abbrev pub minus0 : Float
minus0 = bits 0x8000000000000000

abbrev pub half : Float
half = bits 0x3fe0000000000000

abbrev pub three_quarters : Float
three_quarters = bits 0x3fe8000000000000

abbrev pub f4 : Float
f4 = bits 0x4010000000000000

abbrev pub f16 : Float
f16 = bits 0x4030000000000000

abbrev pub f48 : Float
f48 = bits 0x4048000000000000

-- 0.5 / 6 rounded
abbrev pub twelfth : Float
twelfth = bits 0x3fb5555555555555

-- ---- cell U, with what a case may change as arguments

module _ (cutoff : Float) (anchoring : Anchoring) (symmetry : Symmetry) (shortest nonzero : ℕ) (constant : Float) (count : ℤ) (bands : List ℤ) (flags : List ℕ)
    (temperature : Float) where
  unfoldable pub cell_u : JoinedSet
  cell_u = record {
    tables = record {
      measures = record { atoms = 1; supercell = 1; first = length bands; grid = 1; vectors = 1 };
      settings = record { anchoring = anchoring; cutoff = cutoff };
      symmetry = symmetry;
      crystal = record {
        vectors = f0 ∷ f0 ∷ f0 ∷ [];
        multiplicity = count ∷ pos 0 ∷ [];
        masses = f4 ∷ [];
        forces = record {
          form = Compact;
          p2s = pos 0 ∷ [];
          s2p = pos 0 ∷ [];
          shortest = shortest ∷ [];
          nonzero = nonzero ∷ [];
          constants = replicate 5 f0 ++ constant ∷ replicate 21 f0;
        };
      };
      grid = record {
        mesh = pos 1 ∷ pos 1 ∷ pos 1 ∷ [];
        matrix = pos 1 ∷ pos 0 ∷ pos 0 ∷ pos 0 ∷ pos 1 ∷ pos 0 ∷ pos 0 ∷ pos 0 ∷ pos 1 ∷ [];
        addresses = pos 0 ∷ pos 0 ∷ pos 0 ∷ [];
      };
      bands = bands;
      phonons = record {
        frequencies = f1 ∷ f2 ∷ f4 ∷ [];
        eigenvectors = f1 ∷ f0 ∷ f0 ∷ f0 ∷ f0 ∷ f0 ∷ f0 ∷ f0 ∷ f1 ∷ f0 ∷ f0 ∷ f0 ∷ f0 ∷ f0 ∷ f0 ∷ f0 ∷ f1 ∷ f0 ∷ [];
      };
    };
    triplet = pos 0 ∷ pos 0 ∷ pos 0 ∷ [];
    flags = flags;
    bath = record { weight = pos 3; temperature = temperature };
    first = replicate (length bands * 9) f2;
    second = replicate (length bands * 9) f0;
    strengths = replicate (length bands * 9) minus1;
    totals = replicate (length bands) minus1;
    work = replicate 205 minus1;
  }

abbrev pub all3 : List ℤ
all3 = pos 0 ∷ pos 1 ∷ pos 2 ∷ []

abbrev pub unflagged : List ℕ
unflagged = replicate 27 0

-- slot (0, 1, 2)
abbrev pub flagged5 : List ℕ
flagged5 = set unflagged 5 1

-- ---- what is left

abbrev pub among : List ℕ → ℕ → Bool
among [] n = false
among (x ∷ xs) n = eqb n x || among xs n

-- n slots: x at the numbers of l, and 0.0 elsewhere
unfoldable pub holding : ℕ → Float → List ℕ → List Float
holding n x l = table n (λ i. cond (among l i) x f0)

unfoldable pub worked : List Float → List Float → JoinedOutcome
worked strengths totals = record { answer = 0; strengths = strengths; totals = totals; work = replicate 203 f0 ++ minus1 ∷ minus1 ∷ [] }

unfoldable pub untouched : ℕ → JoinedOutcome
untouched number = record { answer = number; strengths = replicate 27 minus1; totals = replicate 3 minus1; work = replicate 205 minus1 }

-- ---- the table. The arguments of U are: cutoff, anchoring, symmetrizing, all-shortest, nonzero, force constant at (0, 1, 2), multiplicity count, bands, flags, temperature.

pub record KeyCase : Type 0 where
  pub set : JoinedSet
  pub outcome : JoinedOutcome

-- none
abbrev pub M1 : KeyCase
M1 = record { set = cell_u half Plain Off 0 1 f16 (pos 1) all3 unflagged f0; outcome = worked (holding 27 half (5 ∷ [])) (f3 ∷ f0 ∷ f0 ∷ []) }

-- cutoff 1
abbrev pub M2 : KeyCase
M2 = record { set = cell_u f1 Plain Off 0 1 f16 (pos 1) all3 unflagged f0; outcome = worked (holding 27 half []) (f0 ∷ f0 ∷ f0 ∷ []) }

-- cutoff 0.75
abbrev pub M3 : KeyCase
M3 = record { set = cell_u three_quarters Plain Off 0 1 f16 (pos 1) all3 unflagged f0; outcome = worked (holding 27 half (5 ∷ [])) (f3 ∷ f0 ∷ f0 ∷ []) }

-- flag on (0,1,2)
abbrev pub M4 : KeyCase
M4 = record { set = cell_u half Plain Off 0 1 f16 (pos 1) all3 flagged5 f0; outcome = worked (holding 27 minus1 (5 ∷ [])) (f0 ∷ f0 ∷ f0 ∷ []) }

-- M4, symmetrized
abbrev pub M5 : KeyCase
M5 = record { set = cell_u half Plain Symmetrized 0 1 f16 (pos 1) all3 flagged5 f0; outcome = worked (holding 27 twelfth (7 ∷ 11 ∷ 15 ∷ 19 ∷ 21 ∷ [])) (half ∷ f1 ∷ f1 ∷ []) }

-- averaged, all-shortest 1
abbrev pub M6 : KeyCase
M6 = record { set = cell_u half Averaged Off 1 1 f16 (pos 1) all3 unflagged f0; outcome = worked (holding 27 half (5 ∷ [])) (f3 ∷ f0 ∷ f0 ∷ []) }

-- averaged, 48 for 16
abbrev pub M7 : KeyCase
M7 = record { set = cell_u half Averaged Off 0 1 f48 (pos 1) all3 unflagged f0; outcome = worked (holding 27 half (5 ∷ 11 ∷ 21 ∷ [])) (f3 ∷ f3 ∷ f3 ∷ []) }

-- nonzero 0
abbrev pub M8 : KeyCase
M8 = record { set = cell_u half Plain Off 0 0 f16 (pos 1) all3 unflagged f0; outcome = worked (holding 27 half []) (f0 ∷ f0 ∷ f0 ∷ []) }

-- bands 0, 0
abbrev pub M9 : KeyCase
M9 = record { set = cell_u half Plain Off 0 1 f16 (pos 1) (pos 0 ∷ pos 0 ∷ []) (replicate 18 0) f0; outcome = worked (holding 18 half (5 ∷ 14 ∷ [])) (f3 ∷ f3 ∷ []) }

-- multiplicity count 0
abbrev pub M10 : KeyCase
M10 = record { set = cell_u half Plain Off 0 1 f16 (pos 0) all3 unflagged f0; outcome = untouched 3 }

-- temperature -0.0
abbrev pub M11 : KeyCase
M11 = record { set = cell_u half Plain Off 0 1 f16 (pos 1) all3 unflagged minus0; outcome = untouched 8 }

abbrev pub key_cases : List KeyCase
key_cases = M1 ∷ M2 ∷ M3 ∷ M4 ∷ M5 ∷ M6 ∷ M7 ∷ M8 ∷ M9 ∷ M10 ∷ M11 ∷ []
