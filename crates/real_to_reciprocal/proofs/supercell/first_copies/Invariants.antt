-- After a turns, the first copies of a atoms.
use mathlib.Core.Path.{◌≡◌}
use Prim.Native.Nat.{ℕ, ◌<◌, ◌≤◌}
use lib.ListN.{length, get_or}
use Rattle.phonon.specs.Number.{index, int}
use Rattle.real_to_reciprocal.specs.Copies.{FirstCopy}
use Rattle.real_to_reciprocal.proofs.supercell.first_copies.Given as goal

abbrev pub invariant-loop-a : goal.invariant-loop-a
invariant-loop-a l = (l.a ≤ length l.p2s) × (length l.first ≡ length l.initial.first) × ((b : ℕ) → b < l.a → FirstCopy l.s2p (length l.s2p) (index (int l.p2s b)) 0 (get_or l.first b 0))
