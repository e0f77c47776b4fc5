-- The numbers whose exponential is worked out by the series.
use Rattle.std.specs.Prelude.{Bool, not, ◌&&◌, Float}
use Rattle.std.specs.Float.Ieee.{lt, le}
use Rattle.phonon.specs.Number.{bits, f0}

unfoldable pub reducible : Float → Bool
reducible x = not (lt (bits 0x4086280000000000) x) && le f0 x
