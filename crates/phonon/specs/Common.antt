-- common.rs: complex numbers. A slice holds each as two f64, the real part first: number i is entries 2 * i and 2 * i + 1.
use Rattle.std.specs.Prelude.{ℕ, ◌+◌, ◌*◌, Bool, ◌&&◌, List, [], ◌∷◌, Float}
use Rattle.std.specs.Float.{nan}
use Rattle.std.specs.Float.Ieee.{eq}
use Rattle.phonon.specs.declared.Complex.{Complex}
use Rattle.phonon.specs.Number.{◌⊕◌, ◌⊖◌, ◌⊗◌, f0, at, table}

abbrev pub czero : Complex
czero = record { re = f0; im = f0 }

-- what is read past the end of a slice
abbrev pub cnan : Complex
cnan = record { re = nan; im = nan }

-- cmplx_add
unfoldable pub cadd : Complex → Complex → Complex
cadd a b = record { re = a.re ⊕ b.re; im = a.im ⊕ b.im }

-- cmplx_mul
unfoldable pub cmul : Complex → Complex → Complex
cmul a b = record { re = a.re ⊗ b.re ⊖ a.im ⊗ b.im; im = a.re ⊗ b.im ⊕ a.im ⊗ b.re }

-- times a real number
unfoldable pub scale : Complex → Float → Complex
scale a s = record { re = a.re ⊗ s; im = a.im ⊗ s }

-- both parts are zero, of either sign
unfoldable pub is_zero : Complex → Bool
is_zero a = eq a.re f0 && eq a.im f0

-- number i of a slice
unfoldable pub cat : List Float → ℕ → Complex
cat l i = record { re = at l (2 * i); im = at l (2 * i + 1) }

unfoldable pub pairs : List Complex → List Float
pairs [] = []
pairs (c ∷ cs) = c.re ∷ (c.im ∷ pairs cs)

-- the slice of f 0, f 1, .., f (n - 1)
unfoldable pub ctable : ℕ → (ℕ → Complex) → List Float
ctable n f = pairs (table n f)
