-- What the work fills: a row has the slots of one first band x and one band y of the second leg, a block those of one first band, and the whole is a block
-- for each position of the bands table.
use Rattle.std.specs.Prelude.{ℕ, ◌*◌, ◌/◌, ◌%◌, ◌<◌, ◌≡◌, true, List, ℤ, T, Float, length}
use Rattle.std.specs.Float.{binary64}
use Rattle.std.specs.Float.Ieee.{fits, lt}
use Rattle.phonon.specs.Number.{f0, index, at, int, table}
use Rattle.phonon.specs.Tests.{finite}
use Rattle.floats.specs.Sign.{Unsigned}
use Rattle.integration_weights.specs.declared.Shape.{Shape}
use Rattle.integration_weights.specs.Shapes.{width_of}
use Rattle.integration_weights.specs.Weights.{SlotWeights, slot_weights}

-- slot k of a row
abbrev pub row_slot : Shape → Float → Float → List Float → ℕ → SlotWeights
row_slot s x y leg k = slot_weights s x y (at leg k)

-- slot q of a block
abbrev pub block_slot : Shape → Float → List Float → List Float → ℕ → SlotWeights
block_slot s x leg1 leg2 q = row_slot s x (at leg1 (q / length leg2)) leg2 (q % length leg2)

-- slot p of all
abbrev pub slot_in : Shape → List ℤ → List Float → List Float → List Float → ℕ → SlotWeights
slot_in s bands leg0 leg1 leg2 p =
    block_slot s (at leg0 (index (int bands (p / (length leg1 * length leg2))))) leg1 leg2 (p % (length leg1 * length leg2))

-- first weights, second weights and flags of n slots, by their lengths
pub record SameLength (n a b c : ℕ) : Type 0 where
  pub first : a ≡ n
  pub second : b ≡ n
  pub flags : c ≡ n

-- they hold the slots f 0, .., f (n - 1)
pub record Written (f : ℕ → SlotWeights) (n : ℕ) (a b : List Float) (c : List ℕ) : Type 0 where
  pub first : a ≡ table n (λ k. (f k).first)
  pub second : b ≡ table n (λ k. (f k).second)
  pub flags : c ≡ table n (λ k. (f k).flag)

-- ---- what the work may take for granted of an accepted set

-- a shape of a finite width above zero
pub record Good (s : Shape) : Type 0 where
  pub width : finite (width_of s) ≡ true
  pub above : lt f0 (width_of s) ≡ true

-- finite frequencies
abbrev pub Finite : List Float → Type 0
Finite l = (k : ℕ) → k < length l → finite (at l k) ≡ true

-- what a shape's value is: an f64, no NaN, and without sign
pub record Value (x : Float) : Type 0 where
  pub unsigned : Unsigned x
  pub held : T (fits binary64 x)
