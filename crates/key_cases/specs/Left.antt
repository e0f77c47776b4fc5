-- What a run of a case leaves, and what it is to leave: the number of the answer, and the three buffers.
use Rattle.std.specs.Prelude.{ℕ, zero, suc, ◌*◌, List, ◌++◌, take, drop, replicate, Float}
use Rattle.std.proofs.Math.Seq.{paste}
use Rattle.phonon.specs.Number.{f0, f2}
use Rattle.phonon.specs.Doors.{StrengthsOutcome, TotalsOutcome, JoinedOutcome, triplet_outcome, list_outcome, totals_outcome, joined_outcome}
use Rattle.key_cases.specs.declared.case.Case.{Case}
use Rattle.key_cases.specs.declared.Door.{Door}
use Rattle.key_cases.specs.declared.Door.TheVariants.{Triplet, Totals, Joined}
use Rattle.key_cases.specs.declared.Door.TheVariants as Doors
use Rattle.key_cases.specs.Cells.{number_at, triplet_of, list_of, totals_of, joined_of}

pub record Left : Type 0 where
  pub number : ℕ
  pub strengths : List Float
  pub totals : List Float
  pub work : List Float

-- ---- what the doors leave, each lent the first numbers of a buffer

-- the strengths' rest, the totals
abbrev pub strengths_left : StrengthsOutcome → List Float → List Float → Left
strengths_left o rest totals = record { number = o.answer; strengths = o.strengths ++ rest; totals = totals; work = o.work }

-- the strengths, the totals' rest, the work buffer
abbrev pub totals_left : TotalsOutcome → List Float → List Float → List Float → Left
totals_left o strengths rest work = record { number = o.answer; strengths = strengths; totals = o.totals ++ rest; work = work }

-- the rests of strengths and totals
abbrev pub joined_left : JoinedOutcome → List Float → List Float → Left
joined_left o rest others = record { number = o.answer; strengths = o.strengths ++ rest; totals = o.totals ++ others; work = o.work }

unfoldable pub run_of : Door → Case → List Float → List Float → List Float → Left
run_of Triplet c strengths totals work =
    strengths_left (triplet_outcome (triplet_of c (take c.first c.bands) (take (9 * c.first) c.flags) (take (9 * c.first) strengths) work))
    (drop (9 * c.first) strengths) totals
run_of Doors.List c strengths totals work =
    strengths_left (list_outcome (list_of c (take c.first c.bands) (take (18 * c.first) c.flags) (take (18 * c.first) strengths) work))
    (drop (18 * c.first) strengths) totals
run_of Totals c strengths totals work =
    totals_left
    (totals_outcome (totals_of c (take (9 * c.first) c.flags) (take (9 * c.first) (replicate 27 f2)) (take (9 * c.first) (replicate 27 f0)) (take (9 * c.first) c.strengths) (take c.first totals)))
    strengths (drop c.first totals) work
run_of Joined c strengths totals work =
    joined_left
    (joined_outcome (joined_of c (take c.first c.bands) (take (9 * c.first) c.flags) (take (9 * c.first) (replicate 27 f2)) (take (9 * c.first) (replicate 27 f0)) (take (9 * c.first) strengths) (take c.first totals) work))
    (drop (9 * c.first) strengths) (drop c.first totals)

-- ---- what the case says: a refused call leaves everything as found, an accepted one its results, and the first 203 numbers of the work buffer at 0.0

-- the first 203 numbers, W of cell U, at 0.0
abbrev pub cleared_u : List Float → List Float
cleared_u work = paste work 0 (replicate 203 f0) 203

unfoldable pub accepted_of : Door → Case → List Float → List Float → List Float → Left
accepted_of Triplet c strengths totals work =
    record { number = 0; strengths = paste strengths 0 c.strengths (9 * c.first); totals = totals; work = cleared_u work }
accepted_of Doors.List c strengths totals work =
    record { number = 0; strengths = paste (paste strengths 0 c.strengths (9 * c.first)) (9 * c.first) c.strengths (9 * c.first); totals = totals; work = cleared_u work }
accepted_of Totals c strengths totals work =
    record { number = 0; strengths = strengths; totals = paste totals 0 c.totals c.first; work = work }
accepted_of Joined c strengths totals work =
    record { number = 0; strengths = paste strengths 0 c.strengths (9 * c.first); totals = paste totals 0 c.totals c.first; work = cleared_u work }

unfoldable pub expected_with : ℕ → Door → Case → List Float → List Float → List Float → Left
expected_with zero door c strengths totals work = accepted_of door c strengths totals work
expected_with (suc n) door c strengths totals work = record { number = suc n; strengths = strengths; totals = totals; work = work }

abbrev pub expected_of : Door → Case → List Float → List Float → List Float → Left
expected_of door c strengths totals work = expected_with (number_at door c) door c strengths totals work
