-- The first bands below b have gathered.
use Prim.Native.Nat.{◌≤◌}
use lib.ListN.{length}
use Rattle.phonon.specs.Number.{at, index, int, flagged}
use Rattle.reciprocal_to_normal.specs.Slots.{Visited, InAll}
use Rattle.reciprocal_to_normal.specs.Listing.{gathered}
use Rattle.reciprocal_to_normal.proofs.gather.gather_sixth.Given as goal

abbrev pub invariant-loop-b : goal.invariant-loop-b
invariant-loop-b l =
    (l.b ≤ length l.bands)
    × Visited l.initial.out l.out (flagged l.flags) (λ m. gathered l.w l.l.at l.l.bands l.l.order (λ i. index (int l.bands i)) (at l.initial.out m) m) (length l.initial.out) (InAll l.l.bands l.b)
