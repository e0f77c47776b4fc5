-- Tests of single numbers and of tables, as document 01's refusals are made of them. Each is true where the set passes.
use Rattle.std.specs.Prelude.{ℕ, zero, suc, ◌+◌, Bool, true, false, ◌&&◌, cond, List, [], ◌∷◌, Float, ℤ, pos, negsuc, leb, length}
use Rattle.std.specs.Float.{nan, inf, fin}
use Rattle.std.specs.Int.Signed.{le_z}
use Rattle.phonon.specs.Number.{at, int}

unfoldable pub all_true_after : Bool → List Bool → Bool
all_true_after a [] = a
all_true_after a (b ∷ bs) = all_true_after (a && b) bs

-- each test of a list holds
unfoldable pub all_true : List Bool → Bool
unfolding all_true_after
all_true [] = true
all_true (b ∷ bs) = all_true_after b bs

-- the test p holds at 0, 1, .., n - 1
unfoldable pub every_below : (ℕ → Bool) → ℕ → Bool
every_below p zero = true
every_below p (suc n) = every_below p n && p n

-- a measure is from low to high, both included
abbrev pub measured : ℕ → ℕ → ℕ → Bool
measured low high n = leb low n && leb n high

-- neither infinite nor a NaN
unfoldable pub finite : Float → Bool
finite nan = false
finite (inf s) = false
finite (fin s m e) = true

-- the sign bit is set, as it is in -0.0
unfoldable pub sign_bit : Float → Bool
sign_bit nan = false
sign_bit (inf s) = s
sign_bit (fin s m e) = s

-- every f64 of a slice is finite
unfoldable pub all_finite : List Float → Bool
all_finite s = every_below (λ k. finite (at s k)) (length s)

-- an i64 is from low to high, both included
unfoldable pub within : ℤ → ℤ → ℤ → Bool
within low high x = le_z low x && le_z x high

-- every i64 of a slice is from low to high
unfoldable pub all_within : ℤ → ℤ → List ℤ → Bool
all_within low high s = every_below (λ k. within low high (int s k)) (length s)

-- a vector range: a count of at least 1 and a start of at least 0, with start + count at most n, the number of vectors
unfoldable pub vector_range : ℕ → ℤ → ℤ → Bool
vector_range n (pos count) (pos start) = leb 1 count && leb (start + count) n
vector_range n (pos count) (negsuc start) = false
vector_range n (negsuc count) start = false

-- the first of the numbers k, k + 1, .., k + n - 1 at which the test p fails, and k + n where it holds at each
unfoldable pub first_from : (ℕ → Bool) → ℕ → ℕ → ℕ
first_from p zero k = k
first_from p (suc n) k = cond (p k) (first_from p n (suc k)) k
