-- Ends and starts of the tables within the words. Nothing cites these now; docs/PORT.md names them.
use Prim.Native.Nat.{ℕ, ◌*◌, ◌≤◌}
use mathlib.Core.Path.{◌≡◌}
use native.Mathlib.Omega.{arith}
use mir.Val.{Fits}
use mir.Syntax.{w64}
use Rattle.carton.specs.Most.{most_words}

-- the same in another slice of as many entries
pub within : (x n l : ℕ) → x ≤ n → l ≡ n → x ≤ l
within x n l h e = omega arith

-- the byte at which entry x of eight bytes starts
pub scaled : (x n : ℕ) → x ≤ n → n ≤ most_words → Fits w64 (x * 8)
scaled x n h k = record { fits = omega arith }
