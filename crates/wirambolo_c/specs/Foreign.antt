-- What a call from C means: choices are numbers, and the answer is one number.
use Rattle.std.specs.Prelude.{ℕ, Bool, true, false, ◌&&◌, cond, List, leb, eqb, Float}
use Rattle.phonon.specs.declared.Anchoring.{Anchoring}
use Rattle.phonon.specs.declared.Anchoring.TheVariants.{Plain, Averaged}
use Rattle.phonon.specs.declared.Form.{Form}
use Rattle.phonon.specs.declared.Form.TheVariants.{Compact, Full}
use Rattle.phonon.specs.declared.Symmetry.{Symmetry}
use Rattle.phonon.specs.declared.Symmetry.TheVariants.{Off, Symmetrized}
use Rattle.phonon.specs.declared.Weights.{Weights}
use Rattle.phonon.specs.declared.Weights.TheVariants.{PerSlot, AtFrequencyPoint}
use Rattle.phonon.specs.Sets.{TripletSet, ListSet, TotalsSet, JoinedSet}
use Rattle.integration_weights.specs.declared.Shape.{Shape}
use Rattle.integration_weights.specs.declared.Shape.TheVariants.{Gaussian, Lorentzian, Box}
use Rattle.integration_weights.specs.Sets.{WeightsSet}
use Rattle.integration_weights.specs.Doors.{weights_outcome}
use Rattle.phonon.specs.Doors.{StrengthsOutcome, triplet_outcome, list_outcome, totals_outcome, joined_outcome}

-- ---- choices: 0 and 1, of a shape 0 to 2, in the order of the enums. No other number is known.

unfoldable pub known : ℕ → Bool
known x = leb x 1

unfoldable pub anchoring_of : ℕ → Anchoring
anchoring_of x = cond (eqb x 0) Plain Averaged

unfoldable pub form_of : ℕ → Form
form_of x = cond (eqb x 0) Compact Full

unfoldable pub symmetry_of : ℕ → Symmetry
symmetry_of x = cond (eqb x 0) Off Symmetrized

unfoldable pub weights_of : ℕ → Weights
weights_of x = cond (eqb x 0) PerSlot AtFrequencyPoint

-- a shape, with its width
unfoldable pub shape_known : ℕ → Bool
shape_known x = leb x 2

unfoldable pub shape_of : ℕ → Float → Shape
shape_of x w = cond (eqb x 0) (Gaussian w) (cond (eqb x 1) (Lorentzian w) (Box w))

-- the three choices of the tables
unfoldable pub choices_known : ℕ → ℕ → ℕ → Bool
choices_known anchoring form symmetry = known anchoring && known form && known symmetry

-- ---- the answers: 255 of a call with a choice that is not known, which leaves everything as it is; otherwise document 01's number

pub record Strengths : Type 0 where
  pub answer : ℕ
  pub strengths : List Float
  pub work : List Float

pub record Totals : Type 0 where
  pub answer : ℕ
  pub totals : List Float

pub record Joined : Type 0 where
  pub answer : ℕ
  pub strengths : List Float
  pub totals : List Float
  pub work : List Float

pub record WeightsAnswer : Type 0 where
  pub answer : ℕ
  pub first : List Float
  pub second : List Float
  pub flags : List ℕ

-- from the outcome of a door of the strengths, with the strengths and the work buffer as they were
unfoldable pub strengths_answer : Bool → StrengthsOutcome → List Float → List Float → Strengths
strengths_answer true o strengths work = record { answer = o.answer; strengths = o.strengths; work = o.work }
strengths_answer false o strengths work = record { answer = 255; strengths = strengths; work = work }

abbrev pub triplet_answer : Bool → TripletSet → Strengths
triplet_answer b s = strengths_answer b (triplet_outcome s) s.strengths s.work

abbrev pub list_answer : Bool → ListSet → Strengths
list_answer b s = strengths_answer b (list_outcome s) s.strengths s.work

unfoldable pub totals_answer : Bool → TotalsSet → Totals
totals_answer true s = record { answer = (totals_outcome s).answer; totals = (totals_outcome s).totals }
totals_answer false s = record { answer = 255; totals = s.totals }

unfoldable pub joined_answer : Bool → JoinedSet → Joined
joined_answer true s = record { answer = (joined_outcome s).answer; strengths = (joined_outcome s).strengths; totals = (joined_outcome s).totals; work = (joined_outcome s).work }
joined_answer false s = record { answer = 255; strengths = s.strengths; totals = s.totals; work = s.work }

unfoldable pub weights_answer : Bool → WeightsSet → WeightsAnswer
weights_answer true s = record { answer = (weights_outcome s).answer; first = (weights_outcome s).first; second = (weights_outcome s).second; flags = (weights_outcome s).flags }
weights_answer false s = record { answer = 255; first = s.first; second = s.second; flags = s.flags }
