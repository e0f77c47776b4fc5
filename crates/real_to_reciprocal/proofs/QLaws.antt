-- The q of a grid point. A whole number may stand under the machine's reading of its bits: a' is a, read so.
use mathlib.Core.Path.{◌≡◌}
use lib.IntN.{ℤ}
use lib.Ieee.{Float}
use Rattle.phonon.specs.Number.{◌⊘◌, float}

pub quotient_of : {a b a' b' : ℤ} {x y : Float} → x ≡ float a' → y ≡ float b' → a' ≡ a → b' ≡ b → x ⊘ y ≡ float a ⊘ float b
quotient_of p q e f = rw (p, q, e, f)
