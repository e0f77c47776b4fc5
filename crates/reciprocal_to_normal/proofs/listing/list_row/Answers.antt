-- After k turns, k numbers are written, and what is read stays as it was.
use mathlib.Core.Path.{◌≡◌, ap}
use Prim.Native.Nat.{◌+◌}
use Rattle.reciprocal_to_normal.specs.Slots.{strength_in}
use Rattle.reciprocal_to_normal.proofs.AmplitudeLaws.{amplitude_kept}
use Rattle.reciprocal_to_normal.proofs.ListingLaws.{above_append, outside_above}
use native.Mathlib.Omega.{arith}
use Rattle.reciprocal_to_normal.proofs.listing.list_row.Goals as goal

pub loop-k-preserved : goal.loop-k-preserved
loop-k-preserved c =
    let a = c.args in
    let p = a.p.now in
    let inv = c.loop-k.invariant.1 in
    let k = c.loop-k.k in
    let pk = c.loop-k-test.true in (
      omega (arith, pk),
      above_append inv c.list_slot.ensures c.requires.1
          (λ i h. let e : k + i ≡ k = omega arith in
          rw e (ap (λ y. strength_in p y a.j k) (amplitude_kept p (outside_above inv) a.j k c.requires.0 (omega (arith, pk))))),
    )
