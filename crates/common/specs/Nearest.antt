-- In what sense the root is the f64 nearest the exact root. There is never a tie.
use Rattle.std.specs.Prelude.{ℕ, ◌+◌, ◌*◌, ◌/◌, ◌^◌, ◌<◌, T, Float}
use Rattle.std.specs.Float.{binary64}
use Rattle.std.specs.Float.Ieee.{fits}
use Rattle.std.specs.Float.Ieee.Positive.{num, den, positive}

-- a positive f64 as a whole number of the smallest f64, 2 ^ -1074
abbrev pub smallest : Float → ℕ
smallest y = num y * 2 ^ 1074 / den y

-- x as a whole number of 2 ^ -2148, so that the exact root of x is that of `squares x`, counted in the smallest f64
abbrev pub squares : Float → ℕ
squares x = num x * 2 ^ 2148 / den x

-- Of each other positive f64 y, the middle of r and y lies on y's side of the exact root of x: so the root is nearer to r than to y.
-- The middle, (r + y) / 2, is compared with the root by squares: (r + y) * (r + y) with 4 * x.
pub record Nearest (x r : Float) : Type 0 where
  pub held : T (fits binary64 r)
  pub above : (y : Float) → T (fits binary64 y) → T (positive y) → smallest r < smallest y → 4 * squares x < (smallest r + smallest y) * (smallest r + smallest y)
  pub below : (y : Float) → T (fits binary64 y) → T (positive y) → smallest y < smallest r → (smallest r + smallest y) * (smallest r + smallest y) < 4 * squares x
