-- The slots below j have gathered.
use Prim.Native.Nat.{◌≤◌}
use lib.ListN.{length}
use Rattle.phonon.specs.Number.{at, flagged}
use Rattle.reciprocal_to_normal.specs.Slots.{Visited, InColumn}
use Rattle.reciprocal_to_normal.specs.Listing.{gathered}
use Rattle.reciprocal_to_normal.proofs.gather.gather_column.Given as goal

abbrev pub invariant-loop-j : goal.invariant-loop-j
invariant-loop-j l = (l.j ≤ l.l.bands) × Visited l.initial.out l.out (flagged l.flags) (λ m. gathered l.w l.l.at l.l.bands l.l.order (λ i. l.n) (at l.initial.out m) m) (length l.initial.out) (InColumn l.l.bands l.c.b l.c.k l.j)
