-- A set that fails a test is answered with its number; one that passes is left as its definition says.
use mathlib.Core.Path.{◌≡◌, refl}
use mathlib.Core.List.{List}
use lib.Ieee.{Float}
use Rattle.std.specs.Prelude.{Result, Err}
use Rattle.phonon.specs.declared.Refusal.{Refusal}
use Rattle.phonon.specs.Answers.{number, number_of}
use Rattle.phonon.specs.Sets.{TripletSet, ListSet, of_triplet}
use Rattle.phonon.specs.Interaction.{strengths, list_strengths}
use Rattle.phonon.specs.Refusal.{triplet_refusal, list_refusal}
use Rattle.phonon.specs.Doors.{cleared, StrengthsOutcome, triplet_leaves, triplet_outcome, list_leaves, list_outcome}
use Rattle.phonon.proofs.Answers.{number_positive}
use Rattle.checks.proofs.AnswerLaws.{turned_back}

-- ---- one triplet

pub refused : (s : TripletSet) {a : Result Unit Refusal} {r : Refusal} → a ≡ Err r → number r ≡ triplet_refusal s
    → ◌≡◌ {A = StrengthsOutcome} (record { answer = number_of a; strengths = s.strengths; work = s.work }) (triplet_outcome s)
unfolding triplet_outcome triplet_leaves
refused s {r = r} h e = rw h (turned_back (λ n. triplet_leaves n s) (λ n. record { answer = n; strengths = s.strengths; work = s.work }) (λ n. refl) (number_positive r) e)

pub accepted : (s : TripletSet) → triplet_refusal s ≡ 0 → {v w : List Float} → v ≡ strengths (of_triplet s) s.strengths → w ≡ cleared s.tables.measures s.work
    → ◌≡◌ {A = StrengthsOutcome} (record { answer = 0; strengths = v; work = w }) (triplet_outcome s)
unfolding triplet_outcome triplet_leaves
accepted s e p q = rw (e, p, q) refl

-- ---- a list of triplets

pub list_refused : (s : ListSet) {a : Result Unit Refusal} {r : Refusal} → a ≡ Err r → number r ≡ list_refusal s
    → ◌≡◌ {A = StrengthsOutcome} (record { answer = number_of a; strengths = s.strengths; work = s.work }) (list_outcome s)
unfolding list_outcome list_leaves
list_refused s {r = r} h e = rw h (turned_back (λ n. list_leaves n s) (λ n. record { answer = n; strengths = s.strengths; work = s.work }) (λ n. refl) (number_positive r) e)

pub list_accepted : (s : ListSet) → list_refusal s ≡ 0 → {v w : List Float} → v ≡ list_strengths s → w ≡ cleared s.tables.measures s.work
    → ◌≡◌ {A = StrengthsOutcome} (record { answer = 0; strengths = v; work = w }) (list_outcome s)
unfolding list_outcome list_leaves
list_accepted s e p q = rw (e, p, q) refl
