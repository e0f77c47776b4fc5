-- The columns below k have gathered.
use Prim.Native.Nat.{◌≤◌}
use lib.ListN.{length}
use Rattle.phonon.specs.Number.{at, flagged}
use Rattle.reciprocal_to_normal.specs.Slots.{Visited, InPlane}
use Rattle.reciprocal_to_normal.specs.Listing.{gathered}
use Rattle.reciprocal_to_normal.proofs.gather.gather_plane.Given as goal

abbrev pub invariant-loop-k : goal.invariant-loop-k
invariant-loop-k l = (l.k ≤ l.l.bands) × Visited l.initial.out l.out (flagged l.flags) (λ m. gathered l.w l.l.at l.l.bands l.l.order (λ i. l.n) (at l.initial.out m) m) (length l.initial.out) (InPlane l.l.bands l.b l.k)
