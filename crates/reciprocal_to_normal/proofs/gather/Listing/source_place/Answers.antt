-- Each band is below nb, so the place is below nb * (nb * nb).
use mathlib.Core.Path.{refl}
use Rattle.reciprocal_to_normal.proofs.GatherLaws.{pick_lt, place_lt, sums_small}
use native.Mathlib.Omega.{arith}
use Rattle.reciprocal_to_normal.proofs.gather.Listing.source_place.Goals as goal

pub overflow_add-result-2 : goal.overflow_add-result-2
overflow_add-result-2 c =
    let p = c.requires in
    let s = c.args.self.now in
    let pick = pick_lt p.0 p.1 p.2 in
    omega (arith, sums_small s.few (pick _ s.in_order.0) (pick _ s.in_order.1) (pick _ s.in_order.2))

pub returns : goal.returns
returns c =
    let p = c.requires in
    let s = c.args.self.now in
    (refl, place_lt p.0 p.1 p.2 s.order s.in_order.0 s.in_order.1 s.in_order.2)
