-- f64 arithmetic, sums and tables: the words that the other definitions are written in.
-- `≡` on Float is equality of bits with every NaN counted as one, as document 01 compares them.
use Rattle.std.specs.Prelude.{ℕ, zero, suc, Bool, not, List, [], ◌∷◌, ℤ, pos, negsuc, eqb, Float, get_or}
use Rattle.std.specs.Float.{nan, binary64}
use Rattle.std.specs.Float.Ieee.{add, sub, mul, div, of_int, of_bits}

infixl 65 ◌⊕◌ ◌⊖◌
infixl 70 ◌⊗◌ ◌⊘◌
-- ---- f64: each operation is rounded once, to nearest, ties to even

abbrev pub ◌⊕◌ : Float → Float → Float
x ⊕ y = add binary64 x y

abbrev pub ◌⊖◌ : Float → Float → Float
x ⊖ y = sub binary64 x y

abbrev pub ◌⊗◌ : Float → Float → Float
x ⊗ y = mul binary64 x y

abbrev pub ◌⊘◌ : Float → Float → Float
x ⊘ y = div binary64 x y

-- an f64 by its bits
abbrev pub bits : ℕ → Float
bits n = of_bits binary64 n

-- 0.0, 1.0, 2.0, 3.0, 6.0
abbrev pub f0 : Float
f0 = bits 0x0000_0000_0000_0000

abbrev pub f1 : Float
f1 = bits 0x3ff0_0000_0000_0000

abbrev pub f2 : Float
f2 = bits 0x4000_0000_0000_0000

abbrev pub f3 : Float
f3 = bits 0x4008_0000_0000_0000

abbrev pub f6 : Float
f6 = bits 0x4018_0000_0000_0000

-- `as f64`, of an i64 and of a whole number
abbrev pub float : ℤ → Float
float z = of_int binary64 z

abbrev pub whole : ℕ → Float
whole n = float (pos n)

-- `as usize`, of an i64: a set that is accepted has no negative index
abbrev pub index : ℤ → ℕ
index (pos n) = n
index (negsuc n) = 0

-- ---- entries of a slice, of f64, of i64, and of bytes as flags; an accepted set reads none past its end

abbrev pub at : List Float → ℕ → Float
at l i = get_or l i nan

abbrev pub int : List ℤ → ℕ → ℤ
int l i = get_or l i (pos 0)

-- document 01: a byte that is not 0
abbrev pub flagged : List ℕ → ℕ → Bool
flagged l i = not (eqb (get_or l i 0) 0)

-- ---- sums and tables

-- f applied at 0, 1, .., n - 1 in turn, starting from s
unfoldable pub fold : {A : Type 0} → ℕ → A → (ℕ → A → A) → A
fold zero s f = s
fold (suc n) s f = f n (fold n s f)

unfoldable pub table_from : {A : Type 0} → ℕ → ℕ → (ℕ → A) → List A
table_from i zero f = []
table_from i (suc n) f = f i ∷ table_from (suc i) n f

-- f 0, f 1, .., f (n - 1)
unfoldable pub table : {A : Type 0} → ℕ → (ℕ → A) → List A
table n f = table_from 0 n f

-- f applied at n, n - 1, .., 1 in turn, starting from s
unfoldable pub countdown : {A : Type 0} → ℕ → A → (ℕ → A → A) → A
countdown zero s f = s
countdown (suc n) s f = countdown n (f (suc n) s) f
