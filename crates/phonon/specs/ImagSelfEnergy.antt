-- imag_self_energy.rs: the band totals of one triplet.
use Rattle.std.specs.Prelude.{ℕ, ◌+◌, ◌*◌, Bool, not, ◌&&◌, cond, List, ℤ, Float}
use Rattle.std.specs.Float.Ieee.{lt}
use Rattle.phonon.specs.declared.Weights.{Weights}
use Rattle.phonon.specs.declared.Weights.TheVariants.{PerSlot, AtFrequencyPoint}
use Rattle.phonon.specs.Number.{◌⊕◌, ◌⊖◌, ◌⊗◌, f0, f1, float, index, at, int, flagged, fold, table}
use Rattle.phonon.specs.Funcs.{bose_einstein}
use Rattle.phonon.specs.Sets.{TotalsSet, JoinedSet, bands_of, slot}

-- what the totals of one triplet read beside the strengths and the temperature
pub record Sum : Type 0 where
  pub weights : Weights
  -- B
  pub bands : ℕ
  pub points : List ℤ
  pub frequencies : List Float
  pub cutoff : Float
  pub flags : List ℕ
  -- the triplet's weight, the first weights and the second weights
  pub weight : ℤ
  pub first : List Float
  pub second : List Float

-- set_g_pos and set_g_pos_at_frequency_point: the first band whose block of flags and weights position b reads, its own or the one that all share
unfoldable pub block : Weights → ℕ → ℕ
block PerSlot b = b
block AtFrequencyPoint b = 0

-- where the flag and the weights of slot (b, j, k) stand
abbrev pub place_of : Sum → ℕ → ℕ → ℕ → ℕ
place_of s b j k = slot s.bands (block s.weights b) j k

-- the frequency of band j of the second leg, and of band k of the third
abbrev pub second1 : Sum → ℕ → Float
second1 s j = at s.frequencies (index (int s.points 1) * s.bands + j)

abbrev pub third2 : Sum → ℕ → Float
third2 s k = at s.frequencies (index (int s.points 2) * s.bands + k)

-- document 01: a slot counts if unflagged and both later frequencies exceed the cutoff
unfoldable pub counted : Sum → ℕ → ℕ → ℕ → Bool
counted s b j k = not (flagged s.flags (place_of s b j k)) && lt s.cutoff (second1 s j) && lt s.cutoff (third2 s k)

-- A counted slot's contribution: n and m are the occupations of its later bands, x and y its weights, v its strength. It is the paper's
-- |Φ|² {(n + m + 1) δ(ω - ω' - ω'') + (n - m) [δ(ω + ω' - ω'') - δ(ω - ω' + ω'')]}, with x and y for the first and the second delta; 18π/ħ² is left out.
unfoldable pub contribution : Float → Float → Float → Float → Float → Float → Float → Float
contribution temperature weight n m x y v =
    cond (lt f0 temperature) (((n ⊕ m ⊕ f1) ⊗ x ⊕ (n ⊖ m) ⊗ y) ⊗ v ⊗ weight) (x ⊗ v ⊗ weight)

unfoldable pub slot_term : Sum → Float → List Float → ℕ → ℕ → ℕ → Float
slot_term s temperature strengths b j k =
    contribution temperature (float s.weight) (bose_einstein (second1 s j) temperature) (bose_einstein (third2 s k) temperature)
    (at s.first (place_of s b j k)) (at s.second (place_of s b j k)) (at strengths (slot s.bands b j k))

-- the total of position b: from 0.0, in document 01's listing order, k and then j
unfoldable pub total : Sum → Float → List Float → ℕ → Float
total s temperature strengths b =
    fold s.bands f0 (λ k u. fold s.bands u (λ j sum. cond (counted s b j k) (sum ⊕ slot_term s temperature strengths b j k) sum))

-- of F first bands
unfoldable pub totals : ℕ → Sum → Float → List Float → List Float
totals F s temperature strengths = table F (total s temperature strengths)

-- ---- the sums of totals alone and of the joined door

abbrev pub sum_alone : TotalsSet → Sum
sum_alone s = record {
  weights = s.weights;
  bands = 3 * s.measures.atoms;
  points = s.triplet;
  frequencies = s.frequencies;
  cutoff = s.cutoff;
  flags = s.flags;
  weight = s.bath.weight;
  first = s.first;
  second = s.second;
}

abbrev pub sum_joined : JoinedSet → Sum
sum_joined s = record {
  weights = PerSlot;
  bands = bands_of s.tables.measures;
  points = s.triplet;
  frequencies = s.tables.phonons.frequencies;
  cutoff = s.tables.settings.cutoff;
  flags = s.flags;
  weight = s.bath.weight;
  first = s.first;
  second = s.second;
}
