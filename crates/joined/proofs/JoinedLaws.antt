-- What the sum requires of an accepted joined set, and what the door leaves of a set that is refused and of one that is accepted.
use Prim.Native.Nat.{◌≤◌}
use native.Mathlib.Omega.{arith}
use mathlib.Core.Path.{◌≡◌, refl, ◌∙◌}
use mathlib.Core.List.{List}
use borrow.Author.Tests.{eqb-true}
use lib.Ieee.{Float}
use lib.ListN.{length}
use Rattle.std.specs.Prelude.{Result, Err}
use Rattle.phonon.specs.declared.Refusal.{Refusal}
use Rattle.phonon.specs.declared.Weights.TheVariants.{PerSlot}
use Rattle.phonon.specs.Answers.{number, number_of}
use Rattle.phonon.specs.Sets.{bands_of, slots, JoinedSet, triplet_of, of_joined}
use Rattle.phonon.specs.Limits.{sizes_of, entries_of}
use Rattle.phonon.specs.Interaction.{strengths}
use Rattle.phonon.specs.ImagSelfEnergy.{totals, sum_joined}
use Rattle.phonon.specs.Refusal.{bath_lengths, triplet_tests, triplet_refusal, joined_refusal}
use Rattle.phonon.specs.Doors.{cleared, JoinedOutcome, joined_with, joined_leaves, joined_outcome}
use Rattle.phonon.proofs.Answers.{number_positive}
use Rattle.phonon.proofs.Lowest.{none_both, passing}
use Rattle.phonon.proofs.Accepted.{holds}
use Rattle.phonon.proofs.Shares.{joined_share}
use Rattle.checks.proofs.AnswerLaws.{turned_back}
use Rattle.real_to_normal.proofs.AcceptedLaws.{facts}
use Rattle.imag_self_energy.specs.Bands.{Sized}

-- the weights and the totals have their lengths
pub record Lengths (s : JoinedSet) : Type 0 where
  pub first : length s.first ≡ slots s.tables.measures
  pub second : length s.second ≡ slots s.tables.measures
  pub totals : length s.totals ≡ s.tables.measures.first

pub lengths : (s : JoinedSet) → joined_refusal s ≡ 0 → Lengths s
unfolding joined_refusal bath_lengths sizes_of
lengths s e =
    let h = holds _ (passing _ refl (none_both (triplet_tests (triplet_of s)) _ e).1).0 in
    record { first = eqb-true _ _ h.0; second = eqb-true _ _ h.1.0; totals = eqb-true _ _ h.1.1.0 }

module _ (s : JoinedSet) (e : joined_refusal s ≡ 0) where
  pub share : triplet_refusal (triplet_of s) ≡ 0
  share = joined_share s e

  pub few : s.tables.measures.atoms ≤ 8
  few = (facts (triplet_of s) share).measured.atoms_most

  -- with any weights and strengths of their lengths
  pub sized : (x y v : List Float) → length x ≡ slots s.tables.measures → length y ≡ slots s.tables.measures → length v ≡ length s.strengths
      → Sized PerSlot (bands_of s.tables.measures) (length s.totals) s.flags x y v
  unfolding entries_of
  sized x y v p q h =
      let a = facts (triplet_of s) share in
      let n = lengths s e in
      record {
        few = omega (arith, few);
        flags = rw n.totals a.flags;
        first = rw n.totals p;
        second = rw n.totals q;
        strengths = rw n.totals (h ∙ a.strengths);
      }

  pub accepted : {v u w : List Float} → v ≡ strengths (of_joined s) s.strengths → u ≡ totals (length s.totals) (sum_joined s) s.bath.temperature v → w ≡ cleared s.tables.measures s.work
      → ◌≡◌ {A = JoinedOutcome} (record { answer = 0; strengths = v; totals = u; work = w }) (joined_outcome s)
  unfolding joined_outcome joined_leaves joined_with
  accepted p q r = rw (e, q, p, r, (lengths s e).totals) refl

pub refused : (s : JoinedSet) {a : Result Unit Refusal} {r : Refusal} → a ≡ Err r → number r ≡ joined_refusal s
    → ◌≡◌ {A = JoinedOutcome} (record { answer = number_of a; strengths = s.strengths; totals = s.totals; work = s.work }) (joined_outcome s)
unfolding joined_outcome joined_leaves
refused s {r = r} h e =
    rw h (turned_back (λ n. joined_leaves n s) (λ n. record { answer = n; strengths = s.strengths; totals = s.totals; work = s.work }) (λ n. refl) (number_positive r) e)
