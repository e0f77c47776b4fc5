-- A table that is filled entry by entry.
use Prim.Native.Nat.{◌*◌, ◌/◌}
use mathlib.Core.Path.{◌≡◌}
use lib.ListN.{length}
use Rattle.planes.proofs.FilledLaws.{Filled}
use Rattle.carton.specs.Words.{word_at}
use Rattle.carton.proofs.words.read_words.Given as goal

abbrev pub invariant-loop-w : goal.invariant-loop-w
invariant-loop-w l = (l.w-end ≡ 63 * (length l.s / 512)) × Filled (word_at l.s) (63 * (length l.s / 512)) l.words l.w
