-- The first bands below b are done: each slot holds its strength or, flagged, what stood there.
use Prim.Native.Nat.{◌+◌, ◌*◌, ◌≤◌}
use lib.ListN.{length}
use Rattle.phonon.specs.Number.{flagged, index, int}
use Rattle.planes.specs.Region.{SameOutside}
use Rattle.reciprocal_to_normal.specs.Slots.{Visited, InAll, slot_strength}
use Rattle.reciprocal_to_normal.proofs.slots.reciprocal_to_normal_squared.Given as goal

abbrev pub invariant-loop-b : goal.invariant-loop-b
invariant-loop-b l =
    let o = l.o in
    let B = 3 * o.atoms in
    (l.b ≤ length l.bands)
    × Visited l.initial.out l.out (flagged l.flags) (slot_strength o.atoms l.initial.w o.constants o.legs.leg0 o.legs.leg1 o.legs.leg2 o.freqs.leg0.now o.freqs.leg1.now o.freqs.leg2.now (λ i. index (int l.bands i)) o.cutoff) (length l.initial.out) (InAll B l.b)
    × SameOutside l.initial.w l.w o.scratch (o.scratch + 2 * (B * B) + 4 * B)
