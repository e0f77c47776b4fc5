-- What a shape makes of a slot.
use Rattle.std.specs.Prelude.{ℕ, ◌&&◌, cond, Float}
use Rattle.std.specs.Float.Ieee.{eq}
use Rattle.phonon.specs.Number.{◌⊕◌, ◌⊖◌, f0}
use Rattle.integration_weights.specs.declared.Shape.{Shape}
use Rattle.integration_weights.specs.Shapes.{shape_at}

pub record SlotWeights : Type 0 where
  pub first : Float
  pub second : Float
  pub flag : ℕ

-- 1 exactly if all three are zero
unfoldable pub flag_of : Float → Float → Float → ℕ
flag_of a b c = cond (eq a f0 && eq b f0 && eq c f0) 1 0

-- a, b and c: the shape at (f0 - f1) - f2, at (f0 + f1) - f2 and at (f0 - f1) + f2
unfoldable pub weights_from : Float → Float → Float → SlotWeights
weights_from a b c = record { first = a; second = b ⊖ c; flag = flag_of a b c }

-- of the frequencies x, y and z of the slot's three bands, which the ask calls f0, f1 and f2
unfoldable pub slot_weights : Shape → Float → Float → Float → SlotWeights
slot_weights s x y z = weights_from (shape_at s (x ⊖ y ⊖ z)) (shape_at s (x ⊕ y ⊖ z)) (shape_at s (x ⊖ y ⊕ z))
