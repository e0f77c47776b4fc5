-- A table that is filled entry by entry.
use Prim.Native.Nat.{ℕ}
use mathlib.Core.Path.{◌≡◌}
use lib.ListN.{length, get_or}
use Rattle.planes.proofs.FilledLaws.{Filled}
use Rattle.carton.proofs.words.read_column.Given as goal

abbrev pub invariant-loop-k : goal.invariant-loop-k
invariant-loop-k g l = (l.k-end ≡ length l.words) × Filled (λ (k : ℕ). g.T.FromWord.of (get_or l.words k 0)) (length l.words) l.column l.k
