-- What the sum requires of an accepted set of totals alone, and what the door leaves of a set that is refused and of one that is accepted.
use Prim.Native.Nat.{ℕ, ◌+◌, ◌*◌, ◌≤◌, ◌<◌}
use native.Mathlib.Nat.{mul-le-mul_right}
use native.Mathlib.Numerals.{add-one}
use native.Mathlib.Omega.{arith}
use mathlib.Core.Path.{◌≡◌, refl, sym, ap, ◌∙◌}
use mathlib.Core.Bool.{true}
use mathlib.Core.List.{List}
use borrow.Author.Tests.{eqb-true}
use lib.Ieee.{Float}
use Rattle.std.specs.Prelude.{Result, Ok}
use lib.ListN.{length}
use Rattle.phonon.specs.declared.Refusal.{Refusal}
use Rattle.phonon.specs.Answers.{number, number_of}
use Rattle.phonon.specs.Number.{index, int}
use Rattle.phonon.specs.Sets.{TotalsSet, measures_of}
use Rattle.phonon.specs.ImagSelfEnergy.{totals, sum_alone}
use Rattle.phonon.specs.Refusal.{points_ok, alone_lengths, bath_lengths, alone_tests, entries, totals_refusal}
use Rattle.phonon.specs.Doors.{TotalsOutcome, totals_leaves, totals_outcome}
use Rattle.phonon.proofs.Answers.{number_positive}
use Rattle.phonon.proofs.Lowest.{none_both, passing}
use Rattle.phonon.proofs.Accepted.{Measured, measured_facts, holds, index_below}
use Rattle.checks.proofs.AnswerLaws.{turned_back}
use Rattle.imag_self_energy.specs.Bands.{most_bands, Sized}

-- what is known of an accepted set
record AcceptedTotals (s : TotalsSet) : Type 0 where
  pub measured : Measured (measures_of s.measures)
  pub points : points_ok s.measures.grid s.triplet ≡ true
  pub frequencies : length s.frequencies ≡ s.measures.grid * (3 * s.measures.atoms)
  pub flags : length s.flags ≡ entries s
  pub strengths : length s.strengths ≡ s.measures.first * (3 * s.measures.atoms) * (3 * s.measures.atoms)
  pub first : length s.first ≡ entries s
  pub second : length s.second ≡ entries s
  pub totals : length s.totals ≡ s.measures.first

totals_facts : (s : TotalsSet) → totals_refusal s ≡ 0 → AcceptedTotals s
unfolding totals_refusal alone_lengths bath_lengths
totals_facts s e =
    let a = none_both (alone_tests (measures_of s.measures) (entries s) s.frequencies s.cutoff s.flags s.strengths) _ e in
    let h = passing (alone_tests (measures_of s.measures) (entries s) s.frequencies s.cutoff s.flags s.strengths) refl a.0 in
    let g = passing _ refl a.1 in
    let l = holds _ h.1.0 in
    let k = holds _ g.1.0 in
    record {
      measured = measured_facts (measures_of s.measures) h.0;
      points = g.0;
      frequencies = eqb-true _ _ l.0;
      flags = eqb-true _ _ l.1.0;
      strengths = eqb-true _ _ l.1.1.0;
      first = eqb-true _ _ k.0;
      second = eqb-true _ _ k.1.0;
      totals = eqb-true _ _ k.1.1.0;
    }

module _ (s : TotalsSet) (e : totals_refusal s ≡ 0) where
  facts : AcceptedTotals s
  facts = totals_facts s e

  pub few : 3 * s.measures.atoms ≤ most_bands
  few = omega (arith, facts.measured.atoms_most)

  pub sized : Sized s.weights (3 * s.measures.atoms) (length s.totals) s.flags s.first s.second s.strengths
  sized =
      let n = facts in
      record {
        few = few;
        flags = rw n.totals n.flags;
        first = rw n.totals n.first;
        second = rw n.totals n.second;
        strengths = rw n.totals n.strengths;
      }

  -- the frequencies of a grid point of the triplet lie within the slice
  pub reached : (k : ℕ) → k < length s.triplet → (index (int s.triplet k) + 1) * (3 * s.measures.atoms) ≤ length s.frequencies
  unfolding points_ok
  reached k h =
      let p = index_below s.measures.grid s.triplet facts.measured.grid facts.points k h in
      rw (add-one, facts.frequencies) (mul-le-mul_right (3 * s.measures.atoms) p)

  -- ---- the outcome

  pub accepted : (l : List Float) → l ≡ totals (length s.totals) (sum_alone s) s.bath.temperature s.strengths → ◌≡◌ {A = TotalsOutcome} (record { answer = 0; totals = l }) (totals_outcome s)
  unfolding totals_outcome totals_leaves
  accepted l p = rw (e, p, facts.totals) refl

-- a check that answers Ok is of a set that is not refused
pub passes : {a : Result Unit Refusal} {x : Unit} {r : ℕ} → number_of a ≡ r → a ≡ Ok x → r ≡ 0
passes n p = sym n ∙ ap number_of p

pub refused : (s : TotalsSet) (r : Refusal) → number r ≡ totals_refusal s → ◌≡◌ {A = TotalsOutcome} (record { answer = number r; totals = s.totals }) (totals_outcome s)
unfolding totals_outcome totals_leaves
refused s r e = turned_back (λ n. totals_leaves n s) (λ n. record { answer = n; totals = s.totals }) (λ n. refl) (number_positive r) e
