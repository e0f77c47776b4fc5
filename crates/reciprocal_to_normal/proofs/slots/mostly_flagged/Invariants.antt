-- The count is at most the number of slots passed.
use Prim.Native.Nat.{◌≤◌}
use Rattle.reciprocal_to_normal.proofs.slots.mostly_flagged.Given as goal

abbrev pub invariant-loop-j : goal.invariant-loop-j
invariant-loop-j l = l.count ≤ l.j
