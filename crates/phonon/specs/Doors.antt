-- What the four doors answer and leave, for every set. The answer is given by document 01's number, 0 where the set is worked through (Answers.antt).
use Rattle.std.specs.Prelude.{ℕ, zero, suc, List, ◌++◌, Float, drop, replicate}
use Rattle.phonon.specs.declared.Measures.{Measures}
use Rattle.phonon.specs.Number.{f0}
use Rattle.phonon.specs.Sets.{TripletSet, ListSet, TotalsSet, JoinedSet, of_triplet, of_joined}
use Rattle.phonon.specs.Limits.{work_length}
use Rattle.phonon.specs.Interaction.{strengths, list_strengths}
use Rattle.phonon.specs.ImagSelfEnergy.{totals, sum_alone, sum_joined}
use Rattle.phonon.specs.Refusal.{triplet_refusal, list_refusal, totals_refusal, joined_refusal}

-- the work buffer of an accepted call: its first W numbers at +0.0, the rest as found
unfoldable pub cleared : Measures → List Float → List Float
cleared m work =
    replicate (work_length m.atoms m.supercell) f0 ++ drop (work_length m.atoms m.supercell) work

-- ---- one triplet, and a list of triplets

pub record StrengthsOutcome : Type 0 where
  pub answer : ℕ
  pub strengths : List Float
  pub work : List Float

unfoldable pub triplet_leaves : ℕ → TripletSet → StrengthsOutcome
triplet_leaves zero s = record {
  answer = 0;
  strengths = strengths (of_triplet s) s.strengths;
  work = cleared s.tables.measures s.work;
}
triplet_leaves (suc n) s = record { answer = suc n; strengths = s.strengths; work = s.work }

unfoldable pub triplet_outcome : TripletSet → StrengthsOutcome
triplet_outcome s = triplet_leaves (triplet_refusal s) s

unfoldable pub list_leaves : ℕ → ListSet → StrengthsOutcome
list_leaves zero s = record {
  answer = 0;
  strengths = list_strengths s;
  work = cleared s.tables.measures s.work;
}
list_leaves (suc n) s = record { answer = suc n; strengths = s.strengths; work = s.work }

unfoldable pub list_outcome : ListSet → StrengthsOutcome
list_outcome s = list_leaves (list_refusal s) s

-- ---- totals alone

pub record TotalsOutcome : Type 0 where
  pub answer : ℕ
  pub totals : List Float

unfoldable pub totals_leaves : ℕ → TotalsSet → TotalsOutcome
totals_leaves zero s = record {
  answer = 0;
  totals = totals s.measures.first (sum_alone s) s.bath.temperature s.strengths;
}
totals_leaves (suc n) s = record { answer = suc n; totals = s.totals }

unfoldable pub totals_outcome : TotalsSet → TotalsOutcome
totals_outcome s = totals_leaves (totals_refusal s) s

-- ---- one triplet and its totals joined

pub record JoinedOutcome : Type 0 where
  pub answer : ℕ
  pub strengths : List Float
  pub totals : List Float
  pub work : List Float

-- v: the triplet's strengths
unfoldable pub joined_with : JoinedSet → List Float → JoinedOutcome
joined_with s v = record {
  answer = 0;
  strengths = v;
  totals = totals s.tables.measures.first (sum_joined s) s.bath.temperature v;
  work = cleared s.tables.measures s.work;
}

unfoldable pub joined_leaves : ℕ → JoinedSet → JoinedOutcome
joined_leaves zero s = joined_with s (strengths (of_joined s) s.strengths)
joined_leaves (suc n) s = record { answer = suc n; strengths = s.strengths; totals = s.totals; work = s.work }

unfoldable pub joined_outcome : JoinedSet → JoinedOutcome
joined_outcome s = joined_leaves (joined_refusal s) s
