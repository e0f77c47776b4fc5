-- What the door is handed, and the weights of each slot of it. First weights, second weights and flags are as they are before the call.
use Rattle.std.specs.Prelude.{ℕ, ◌+◌, ◌*◌, ◌/◌, ◌%◌, List, ℤ, Float}
use Rattle.phonon.specs.declared.TotalsMeasures.{TotalsMeasures}
use Rattle.phonon.specs.Number.{index, at, int}
use Rattle.phonon.specs.Sets.{slots, measures_of}
use Rattle.integration_weights.specs.declared.Shape.{Shape}
use Rattle.integration_weights.specs.Weights.{SlotWeights, slot_weights}

pub record WeightsSet : Type 0 where
  -- P, F and G
  pub measures : TotalsMeasures
  pub shape : Shape
  pub triplet : List ℤ
  pub bands : List ℤ
  pub frequencies : List Float
  pub first : List Float
  pub second : List Float
  pub flags : List ℕ

-- B, and the number of slots, F * B * B
abbrev pub bands_in : WeightsSet → ℕ
bands_in s = 3 * s.measures.atoms

abbrev pub slots_in : WeightsSet → ℕ
slots_in s = slots (measures_of s.measures)

-- the frequency of band n at the grid point of leg l
abbrev pub leg_frequency : WeightsSet → ℕ → ℕ → Float
leg_frequency s l n = at s.frequencies (index (int s.triplet l) * bands_in s + n)

-- Slot number n is (b, j, k) = (n / B / B, n / B % B, n % B). Its three bands: the one at position b of the bands table, at the triplet's first
-- grid point; j at its second; k at its third.
unfoldable pub slot_of : WeightsSet → ℕ → SlotWeights
slot_of s n =
    slot_weights s.shape (leg_frequency s 0 (index (int s.bands (n / bands_in s / bands_in s)))) (leg_frequency s 1 (n / bands_in s % bands_in s)) (leg_frequency s 2 (n % bands_in s))
