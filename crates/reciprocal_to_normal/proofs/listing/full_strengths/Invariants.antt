-- After b turns, the planes of b first bands are written.
use Prim.Native.Nat.{◌+◌, ◌*◌, ◌≤◌}
use Rattle.reciprocal_to_normal.specs.Slots.{slot_strength}
use Rattle.reciprocal_to_normal.specs.Listing.{WroteAbove}
use Rattle.reciprocal_to_normal.proofs.listing.full_strengths.Given as goal

abbrev pub invariant-loop-b : goal.invariant-loop-b
invariant-loop-b l =
    let o = l.o in
    let B = 3 * o.atoms in
    (l.b ≤ B) × WroteAbove l.initial.w l.w o.scratch (o.scratch + 2 * (B * B) + 2 * B) l.to (l.b * (B * B))
    (slot_strength o.atoms l.initial.w o.constants o.legs.leg0 o.legs.leg1 o.legs.leg2 o.freqs.leg0.now o.freqs.leg1.now o.freqs.leg2.now (λ i. i) o.cutoff)
