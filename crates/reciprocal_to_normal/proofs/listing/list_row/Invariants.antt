-- After k turns, k numbers are written, and what is read stays as it was.
use Prim.Native.Nat.{◌+◌, ◌*◌, ◌≤◌}
use Rattle.reciprocal_to_normal.specs.Slots.{bands_of, amplitude_in, strength_in}
use Rattle.reciprocal_to_normal.specs.Listing.{WroteAbove}
use Rattle.reciprocal_to_normal.proofs.listing.list_row.Given as goal

abbrev pub invariant-loop-k : goal.invariant-loop-k
invariant-loop-k l = (l.k ≤ bands_of l.p) × WroteAbove l.initial.w l.w l.p.row (l.p.row + 2 * bands_of l.p) l.to l.k (λ k. strength_in l.p (amplitude_in l.initial.w l.p l.j k) l.j k)
