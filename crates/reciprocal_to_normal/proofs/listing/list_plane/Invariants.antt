-- After j turns, j rows are written, and what is read stays as it was.
use Prim.Native.Nat.{◌+◌, ◌*◌, ◌≤◌}
use Rattle.reciprocal_to_normal.specs.Slots.{bands_of, slot_in}
use Rattle.reciprocal_to_normal.specs.Listing.{WroteAbove}
use Rattle.reciprocal_to_normal.proofs.listing.list_plane.Given as goal

abbrev pub invariant-loop-j : goal.invariant-loop-j
invariant-loop-j l = (l.j ≤ bands_of l.p) × WroteAbove l.initial.w l.w l.p.row (l.p.row + 2 * bands_of l.p) l.to (l.j * bands_of l.p) (slot_in l.initial.w l.p)
