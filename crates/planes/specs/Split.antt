-- Complex arrays in two planes: the real parts from index off on, the imaginary parts d places further.
use Rattle.std.specs.Prelude.{◌≡◌, List, ℕ, ◌+◌, ◌*◌, ◌<◌, ◌≤◌, length, get_or, set, Float}
use Rattle.std.specs.Float.{nan}
use Rattle.phonon.specs.declared.Complex.{Complex}
use Rattle.phonon.specs.Number.{at}

-- number k of the array
abbrev pub split : List Float → ℕ → ℕ → ℕ → Complex
split l off d k = record { re = get_or l (off + k) nan; im = get_or l (off + d + k) nan }

-- the slice after a store of number k
abbrev pub put_split : List Float → ℕ → ℕ → ℕ → Complex → List Float
put_split l off d k z = set (set l (off + k) z.re) (off + d + k) z.im

-- l' is l with the first n numbers of the array replaced by f 0, f 1, .., f (n - 1)
pub record WroteSplit (l l' : List Float) (off d n : ℕ) (f : ℕ → Complex) : Type 0 where
  pub size : length l' ≡ length l
  pub inside : (k : ℕ) → k < n → split l' off d k ≡ f k
  pub before : (j : ℕ) → j < off → at l' j ≡ at l j
  pub between : (j : ℕ) → off + n ≤ j → j < off + d → at l' j ≡ at l j
  pub after : (j : ℕ) → off + d + n ≤ j → at l' j ≡ at l j

-- the numbers of l are f 0, f 1, .., f (n - 1), the imaginary parts behind the real ones
pub record Cols (l : List Float) (n : ℕ) (f : ℕ → Complex) : Type 0 where
  pub size : length l ≡ 2 * n
  pub col : (c : ℕ) → c < n → split l 0 n c ≡ f c

-- column j of a matrix of n numbers a row
abbrev pub column : List Float → ℕ → ℕ → ℕ → ℕ → ℕ → Complex
column l off d n j k = split l off d (k * n + j)

-- a vector whose numbers are s places apart
abbrev pub strided : List Float → ℕ → ℕ → ℕ → ℕ → Complex
strided l off d s k = split l off d (k * s)
