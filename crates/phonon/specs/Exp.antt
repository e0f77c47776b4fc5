-- Document 01's exponential, for an argument of at least 0.
use Rattle.std.specs.Prelude.{Bool, true, false, ℕ, pos, Float}
use Rattle.std.specs.Float.{nan, inf, fin}
use Rattle.std.specs.Float.Ieee.{lt, le, to_unsigned}
use Rattle.phonon.specs.Number.{◌⊕◌, ◌⊖◌, ◌⊗◌, ◌⊘◌, bits, f0, f1, whole, countdown}

-- p = 1, then for n = 18 down to 1: p = 1 + p * (r / n)
unfoldable pub exp_series : Float → Float
unfolding countdown
exp_series r = countdown 18 f1 (λ n p. f1 ⊕ p ⊗ (r ⊘ whole n))

-- k, the whole part of x over ln 2
abbrev pub count : Float → ℕ
count x = to_unsigned 64 (x ⊗ bits 0x3FF71547652B82FE)

-- r, what is left of x after k times ln 2, which two constants give
abbrev pub remainder : Float → Float → Float
remainder x k = (x ⊖ k ⊗ bits 0x3FE62E42FEE00000) ⊖ k ⊗ bits 0x3DEA39EF35793C76

-- p * 2 ^ k
unfoldable pub scaled : Float → ℕ → Float
unfolding exp_series
scaled x k = exp_series (remainder x (whole k)) ⊗ fin false 1 (pos k)

-- above 709, at least 0, and neither: the two tests are arguments to match on, so that only the branch that is taken is computed
unfoldable pub by_range : Bool → Bool → Float → Float
unfolding scaled
by_range true b x = inf false
by_range false true x = scaled x (count x)
by_range false false x = nan

-- Outside of its domain, below 0 and at a NaN, it is a NaN.
unfoldable pub exp : Float → Float
unfolding by_range
exp x = by_range (lt (bits 0x4086280000000000) x) (le f0 x) x
