-- The columns below k are visited, and what is read stays as it was.
use Prim.Native.Nat.{◌+◌, ◌*◌, ◌≤◌}
use lib.ListN.{length}
use Rattle.phonon.specs.Number.{flagged}
use Rattle.planes.specs.Region.{SameOutside}
use Rattle.reciprocal_to_normal.specs.Slots.{Visited, InPlane, bands_of, slot_in}
use Rattle.reciprocal_to_normal.proofs.slots.fill_plane.Given as goal

abbrev pub invariant-loop-k : goal.invariant-loop-k
invariant-loop-k l =
    (l.k ≤ bands_of l.p) × Visited l.initial.out l.out (flagged l.flags) (slot_in l.initial.w l.p) (length l.initial.out) (InPlane (bands_of l.p) l.b l.k)
    × SameOutside l.initial.w l.w l.p.row (l.p.row + 4 * bands_of l.p)
