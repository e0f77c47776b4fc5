-- After k turns, the next copies of k supercell atoms.
use mathlib.Core.Path.{◌≡◌}
use Prim.Native.Nat.{ℕ, ◌+◌, ◌<◌, ◌≤◌}
use lib.ListN.{length, get_or}
use Rattle.phonon.specs.Number.{index, int}
use Rattle.real_to_reciprocal.specs.Copies.{FirstCopy}
use Rattle.real_to_reciprocal.proofs.supercell.later_copies.Given as goal

abbrev pub invariant-loop-k : goal.invariant-loop-k
invariant-loop-k l = (l.k ≤ length l.s2p) × (length l.later ≡ length l.initial.later) × ((b : ℕ) → b < l.k → FirstCopy l.s2p (length l.s2p) (index (int l.s2p b)) (b + 1) (get_or l.later b 0))
