-- The value of a shape at a distance. Each operation is rounded once, left to right.
use Rattle.std.specs.Prelude.{cond, Float}
use Rattle.std.specs.Float.Ieee.{lt, le, neg}
use Rattle.phonon.specs.Number.{◌⊕◌, ◌⊗◌, ◌⊘◌, bits, f0, f1, f2}
use Rattle.phonon.specs.Exp.{exp}
use Rattle.integration_weights.specs.declared.Shape.{Shape}
use Rattle.integration_weights.specs.declared.Shape.TheVariants.{Gaussian, Lorentzian, Box}

-- 8.0
abbrev pub f8 : Float
f8 = bits 0x4020_0000_0000_0000

-- the f64 nearest 1/π
abbrev pub inverse_pi : Float
inverse_pi = bits 0x3FD4_5F30_6DC9_C883

-- c, the f64 nearest 1/√(2π)
abbrev pub gaussian_scale : Float
gaussian_scale = bits 0x3FD9_8845_33D4_3651

-- |d|, which is only compared: the sign of a zero plays no part
unfoldable pub magnitude : Float → Float
magnitude d = cond (lt d f0) (neg d) d

-- 1/(2·w) if |d| ≤ w, else 0.0
unfoldable pub box_at : Float → Float → Float
box_at w d = cond (le (magnitude d) w) (f1 ⊘ (f2 ⊗ w)) f0

-- (w/(d·d + w·w)) times 1/π
unfoldable pub lorentzian_at : Float → Float → Float
lorentzian_at w d = w ⊘ (d ⊗ d ⊕ w ⊗ w) ⊗ inverse_pi

-- 1 over the exponential of (t·t)/2, times c/w
unfoldable pub bell : Float → Float → Float
bell w t = f1 ⊘ exp (t ⊗ t ⊘ f2) ⊗ (gaussian_scale ⊘ w)

-- 0.0 if |d| > 8·w, else the bell at t = d/w
unfoldable pub gaussian_at : Float → Float → Float
gaussian_at w d = cond (lt (f8 ⊗ w) (magnitude d)) f0 (bell w (d ⊘ w))

unfoldable pub shape_at : Shape → Float → Float
shape_at (Gaussian w) d = gaussian_at w d
shape_at (Lorentzian w) d = lorentzian_at w d
shape_at (Box w) d = box_at w d

unfoldable pub width_of : Shape → Float
width_of (Gaussian w) = w
width_of (Lorentzian w) = w
width_of (Box w) = w
