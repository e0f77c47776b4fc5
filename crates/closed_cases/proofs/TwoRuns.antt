-- Demand 3 on a closed pair of runs: slots are kept and a total agrees, and elsewhere the runs differ. The bits are the oracle's.
use Prim.Native.Nat.{ℕ, zero, suc, ◌<◌}
use native.Mathlib.Omega.{arith}
use mathlib.Core.Path.{◌≡◌, refl, sym, ◌∙◌}
use mathlib.Core.Bool.{true, false, true≢false}
use mathlib.Core.List.{[], ◌∷◌}
use lib.ListN.{replicate}
use Rattle.phonon.specs.Number.{bits, f0, f1, flagged}
use Rattle.phonon.specs.Sets.{of_joined}
use Rattle.phonon.specs.ImagSelfEnergy.{sum_joined, counted}
use Rattle.phonon.specs.Doors.{joined_outcome}
use Rattle.phonon.specs.KeyCases.{minus1, half, unflagged}
use Rattle.phonon.specs.Demand3.{joined, Narrowed, Stays, IsSlot, Kept, SameStrength, SameBath, SameTotal}
use Rattle.phonon.proofs.Evaluate.{evaluate}
use Rattle.phonon.proofs.TwoRuns.{demand3}
use Rattle.closed_cases.specs.TwoRuns.{run, quarter, first_run, second_run}

unfoldable computed : ℕ
unfolding evaluate run
computed = 0

-- ---- what each leaves: position 1's band lies below the raised cutoff, position 2's is the changed one

pub first_leaves : joined_outcome first_run ≡ record {
  answer = 0;
  strengths =
      f0 ∷ f0 ∷ f0 ∷ f0 ∷ f1 ∷ half ∷ f0 ∷ half ∷ quarter
      ∷ f0 ∷ f0 ∷ f0 ∷ f0 ∷ bits 0x3ff999999999999a ∷ bits 0x3fe999999999999a ∷ f0 ∷ bits 0x3fe999999999999a ∷ bits 0x3fd999999999999a
      ∷ f0 ∷ f0 ∷ f0 ∷ f0 ∷ quarter ∷ bits 0x3fc0000000000000 ∷ f0 ∷ bits 0x3fc0000000000000 ∷ bits 0x3fb0000000000000 ∷ [];
  totals = bits 0x40307c38487cc071 ∷ bits 0x403a605a0d94671c ∷ bits 0x40107c38487cc071 ∷ [];
  work = replicate 203 f0;
}
unfolding computed
first_leaves = refl

pub second_leaves : joined_outcome second_run ≡ record {
  answer = 0;
  strengths =
      f0 ∷ f0 ∷ f0 ∷ f0 ∷ f1 ∷ half ∷ f0 ∷ half ∷ quarter
      ∷ f0 ∷ f0 ∷ f0 ∷ f0 ∷ f0 ∷ minus1 ∷ f0 ∷ f0 ∷ f0
      ∷ f0 ∷ f0 ∷ f0 ∷ f0 ∷ bits 0x3fe999999999999a ∷ bits 0x3fd999999999999a ∷ f0 ∷ bits 0x3fd999999999999a ∷ bits 0x3fc999999999999a ∷ [];
  totals = bits 0x40307c38487cc071 ∷ f0 ∷ bits 0x402a605a0d94671c ∷ [];
  work = replicate 203 f0;
}
unfolding computed
second_leaves = refl

-- ---- the pair meets what demand 3 asks

-- what holds below 3
below3 : (A : ℕ → Type 0) → A 0 → A 1 → A 2 → (m : ℕ) → m < 3 → A m
below3 A a b c zero l = a
below3 A a b c (suc zero) l = b
below3 A a b c (suc (suc zero)) l = c
below3 A a b c (suc (suc (suc m))) l = absurd (omega arith)

-- the added flag is the only one
none_before : (n : ℕ) → flagged unflagged n ≡ true → flagged second_run.flags n ≡ true
unfolding computed
none_before n h = absurd (true≢false (sym h ∙ flags_none 27 n))
  where
    flags_none : (m n : ℕ) → flagged (replicate m 0) n ≡ false
    flags_none zero n = refl
    flags_none (suc m) zero = refl
    flags_none (suc m) (suc n) = flags_none m n

pub narrowed : Narrowed (of_joined first_run) (of_joined second_run)
unfolding computed
narrowed = record {
  measures = refl;
  anchoring = refl;
  symmetry = refl;
  crystal = refl;
  grid = refl;
  bands = refl;
  points = refl;
  added = none_before;
  raised = refl;
}

-- band 0 at the first point, and bands 1 and 2 at the second, stay

stays_first : Stays (of_joined first_run) (of_joined second_run) 0 0
unfolding computed
stays_first = record { unchanged = record { frequency = refl; entries = below3 _ refl refl refl }; above = refl }

stays_1 : Stays (of_joined first_run) (of_joined second_run) 1 1
unfolding computed
stays_1 = record { unchanged = record { frequency = refl; entries = below3 _ refl refl refl }; above = refl }

stays_2 : Stays (of_joined first_run) (of_joined second_run) 1 2
unfolding computed
stays_2 = record { unchanged = record { frequency = refl; entries = below3 _ refl refl refl }; above = refl }

-- the counted slots of position 0: those of bands 1 and 2, the same in both runs

pub same_counted : (j k : ℕ) → IsSlot (of_joined first_run) 0 j k → counted (sum_joined first_run) 0 j k ≡ counted (sum_joined second_run) 0 j k
unfolding computed
same_counted j k s =
    below3 (λ j. (k : ℕ) → k < 3 → counted (sum_joined first_run) 0 j k ≡ counted (sum_joined second_run) 0 j k)
    (below3 _ refl refl refl) (below3 _ refl refl refl) (below3 _ refl refl refl) j s.second k s.third

-- they are kept
abbrev KeptIfCounted : ℕ → ℕ → Type 0
KeptIfCounted j k = counted (sum_joined first_run) 0 j k ≡ true → Kept (of_joined first_run) (of_joined second_run) 0 j k

pub counted_kept : (j k : ℕ) → IsSlot (of_joined first_run) 0 j k → KeptIfCounted j k
unfolding computed
counted_kept j k s =
    below3 (λ j. (k : ℕ) → k < 3 → KeptIfCounted j k)
    (below3 _ (λ h. absurd (true≢false (sym h))) (λ h. absurd (true≢false (sym h))) (λ h. absurd (true≢false (sym h))))
    (below3 _ (λ h. absurd (true≢false (sym h)))
    (λ h. record { unflagged = refl; stays0 = stays_first; stays1 = stays_1; stays2 = stays_1 })
    (λ h. record { unflagged = refl; stays0 = stays_first; stays1 = stays_1; stays2 = stays_2 }))
    (below3 _ (λ h. absurd (true≢false (sym h)))
    (λ h. record { unflagged = refl; stays0 = stays_first; stays1 = stays_2; stays2 = stays_1 })
    (λ h. record { unflagged = refl; stays0 = stays_first; stays1 = stays_2; stays2 = stays_2 }))
    j s.second k s.third

first_accepted : (joined_outcome first_run).answer ≡ 0
unfolding computed
first_accepted = refl

second_accepted : (joined_outcome second_run).answer ≡ 0
unfolding computed
second_accepted = refl

-- ---- so demand 3 speaks of it

slot_0_1_2 : IsSlot (of_joined first_run) 0 1 2
unfolding computed
slot_0_1_2 = record { first = omega arith; second = omega arith; third = omega arith }

counted_0_1_2 : counted (sum_joined first_run) 0 1 2 ≡ true
unfolding computed
counted_0_1_2 = refl

same_bath : SameBath first_run second_run
unfolding computed
same_bath = record { bath = refl; first = refl; second = refl }

pub slot_agrees : SameStrength (joined first_run) (joined second_run) 0 1 2
slot_agrees =
    demand3.strengths (joined first_run) (joined second_run) first_accepted second_accepted narrowed 0 1 2 slot_0_1_2
    (counted_kept 1 2 slot_0_1_2 counted_0_1_2)

pub total_agrees : SameTotal first_run second_run 0
total_agrees =
    demand3.totals first_run second_run first_accepted second_accepted narrowed same_bath 0 slot_0_1_2.first same_counted counted_kept
