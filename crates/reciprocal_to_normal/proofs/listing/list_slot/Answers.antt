-- The row contraction and the dot give the amplitude; the row is scratch.
use mathlib.Core.Path.{refl, ap, ◌∙◌}
use Prim.Native.Nat.{◌+◌, ◌*◌}
use Rattle.planes.proofs.RegionLaws.{outside_split}
use Rattle.reciprocal_to_normal.specs.Slots.{bands_of, strength_in}
use Rattle.reciprocal_to_normal.proofs.AmplitudeLaws.{dot_is}
use Rattle.reciprocal_to_normal.proofs.ListingLaws.{above_put, above_outside}
use native.Mathlib.Omega.{arith}
use Rattle.reciprocal_to_normal.proofs.listing.list_slot.Goals as goal

pub returns : goal.returns
returns c =
    let a = c.args in
    let p = a.p.now in
    let w = c.contract_leg2.ensures in
    let sizes = c.requires in
    above_outside (outside_split p.row (p.row + 2 * bands_of p) (omega arith) (omega arith) refl w) sizes.2
    (above_put _ p.row (p.row + 2 * bands_of p) a.to (omega (arith, w.size, sizes.3)) (omega (arith, sizes.2))
    (c.strength.ensures ∙ ap (λ y. strength_in p y a.j a.k) (c.dot.ensures ∙ dot_is p a.k w a.j sizes.0)))
