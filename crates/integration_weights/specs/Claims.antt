-- What the ask wants shown: no shape is negative, once for the three, and so no first weight of an accepted set.
use Rattle.std.specs.Prelude.{ℕ, ◌<◌, ◌≡◌, true, not, T, Float}
use Rattle.std.specs.Float.Ieee.{is_nan, lt, le}
use Rattle.phonon.specs.Number.{f0, at}
use Rattle.phonon.specs.Tests.{finite}
use Rattle.floats.specs.Sign.{Unsigned}
use Rattle.integration_weights.specs.declared.Shape.{Shape}
use Rattle.integration_weights.specs.Shapes.{shape_at, width_of}
use Rattle.integration_weights.specs.Sets.{WeightsSet, slots_in}
use Rattle.integration_weights.specs.Refusal.{weights_refusal}
use Rattle.integration_weights.specs.Doors.{weights_outcome}

-- at least 0.0; moreover no NaN, and without sign bit
pub record Nonnegative (x : Float) : Type 0 where
  pub least : T (le f0 x)
  pub unsigned : Unsigned x

-- a width that the door accepts, and every distance but a NaN, the infinite ones too
abbrev pub NonnegativeShapes : Type 0
NonnegativeShapes = (s : Shape) (d : Float) → finite (width_of s) ≡ true → lt f0 (width_of s) ≡ true → T (not (is_nan d)) → Nonnegative (shape_at s d)

-- what an accepted call leaves
abbrev pub NonnegativeWeights : Type 0
NonnegativeWeights = (s : WeightsSet) → weights_refusal s ≡ 0 → (n : ℕ) → n < slots_in s → Nonnegative (at (weights_outcome s).first n)
