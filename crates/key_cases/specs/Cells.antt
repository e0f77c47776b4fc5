-- The program's cases as the definitions' sets: what each door is handed of cell U with a case's change.
use Rattle.std.specs.Prelude.{◌≡◌, ℕ, zero, suc, ◌*◌, ◌≤◌, cond, List, [], ◌∷◌, ◌++◌, length, take, replicate, ℤ, pos, ◌==◌, Float}
use Rattle.phonon.specs.declared.Bath.{Bath}
use Rattle.phonon.specs.declared.Weights.TheVariants.{PerSlot}
use Rattle.phonon.specs.Number.{f0}
use Rattle.phonon.specs.Answers.{number_of}
use Rattle.phonon.specs.Sets.{Tables, TripletSet, ListSet, TotalsSet, JoinedSet}
use Rattle.phonon.specs.Doors.{JoinedOutcome}
use Rattle.phonon.specs.KeyCases.{KeyCase, cell_u, worked, untouched}
use Rattle.key_cases.specs.declared.case.Case.{Case}
use Rattle.key_cases.specs.declared.case.Cell.{Cell}
use Rattle.key_cases.specs.declared.Door.{Door}
use Rattle.key_cases.specs.declared.Door.TheVariants.{Triplet, Totals, Joined}
use Rattle.key_cases.specs.declared.Door.TheVariants as Doors

-- the lengths of a case's arrays, and F within them
abbrev pub Sized : Case → Type 0
Sized c = (c.first ≤ 3) × (length c.bands ≡ 3) × (length c.flags ≡ 54) × (length c.strengths ≡ 27) × (length c.totals ≡ 3)

-- the bands and the flags are those that are handed in
unfoldable pub cell_of : Case → List ℤ → List ℕ → JoinedSet
cell_of c bands flags =
    cell_u c.cutoff c.anchoring c.symmetry c.shortest c.nonzero c.constant c.count bands flags c.temperature

-- its tables, for which no flag counts, and its bath
unfoldable pub tables_of : Case → List ℤ → Tables
tables_of c bands = (cell_of c bands []).tables

unfoldable pub bath_of : Case → Bath
bath_of c = (cell_of c [] []).bath

-- the entries of the tables that a case may change
pub record Entries (c : Case) (e : Cell) : Type 0 where
  pub multiplicity : e.multiplicity ≡ c.count ∷ pos 0 ∷ []
  pub shortest : e.shortest ≡ c.shortest ∷ []
  pub nonzero : e.nonzero ≡ c.nonzero ∷ []
  pub constants : e.constants ≡ replicate 5 f0 ++ c.constant ∷ replicate 21 f0

-- the number by which the joined door turns a case away, or 0: the doors of the strengths test theirs first
unfoldable pub joined_number : Case → ℕ
joined_number c = cond (number_of c.strengths_answer == 0) (number_of c.totals_answer) (number_of c.strengths_answer)

unfoldable pub number_at : Door → Case → ℕ
number_at Triplet c = number_of c.strengths_answer
number_at Doors.List c = number_of c.strengths_answer
number_at Totals c = number_of c.totals_answer
number_at Joined c = joined_number c

unfoldable pub outcome_of : ℕ → Case → JoinedOutcome
outcome_of zero c = worked (take (9 * c.first) c.strengths) (take c.first c.totals)
outcome_of (suc n) c = untouched (suc n)

-- a case of the program as one of the definitions' key cases
unfoldable pub key_case_of : Case → KeyCase
key_case_of c = record { set = cell_of c (take c.first c.bands) (take (9 * c.first) c.flags); outcome = outcome_of (joined_number c) c }

unfoldable pub triplet_of : Case → List ℤ → List ℕ → List Float → List Float → TripletSet
triplet_of c bands flags strengths work =
    let u = cell_of c bands flags in
    record { tables = u.tables; triplet = u.triplet; flags = flags; strengths = strengths; work = work }

unfoldable pub list_of : Case → List ℤ → List ℕ → List Float → List Float → ListSet
list_of c bands flags strengths work =
    let u = cell_of c bands flags in
    record { tables = u.tables; list = 2; triplets = u.triplet ++ u.triplet; flags = flags; strengths = strengths; work = work }

unfoldable pub joined_of : Case → List ℤ → List ℕ → List Float → List Float → List Float → List Float → List Float → JoinedSet
joined_of c bands flags first second strengths totals work =
    let u = cell_of c bands flags in
    record { tables = u.tables; triplet = u.triplet; flags = flags; bath = u.bath; first = first; second = second; strengths = strengths; totals = totals; work = work }

unfoldable pub totals_of : Case → List ℕ → List Float → List Float → List Float → List Float → TotalsSet
totals_of c flags first second strengths totals =
    let u = cell_of c [] flags in
    record {
      measures = record { atoms = 1; first = length totals; grid = 1 };
      weights = PerSlot;
      triplet = u.triplet;
      frequencies = u.tables.phonons.frequencies;
      cutoff = c.cutoff;
      flags = flags;
      strengths = strengths;
      bath = u.bath;
      first = first;
      second = second;
      totals = totals;
    }
