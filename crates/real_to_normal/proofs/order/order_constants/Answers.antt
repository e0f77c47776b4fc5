-- The legs picked in this order hand their factors and pre-factors to the blocks.
use Rattle.phonon.specs.Handed.{tables_of}
use Rattle.real_to_normal.proofs.OrderLaws.{order_is, order_outside}
use Rattle.real_to_normal.proofs.order.order_constants.Goals as goal

pub returns : goal.returns
returns c =
    let a = c.args in
    let t = tables_of a.p.now.tables.now in
    let o = c.requires.sizes.1 in
    let h = c.requires.factors in
    let e = c.picked-q.ensures in
    let l = c.of-at.ensures in
    let s = l.1 in
    let f = c.picked.ensures in
    let w = rw l.2 at c.pre_phase_factors.ensures in
    let r = rw (l.2, l.3) at c.real_to_reciprocal.ensures in
    (order_is t a.order o a.p.now.q e s f h w r.0 r.1, order_outside t a.order o a.p.now.q e s f h w r.0 r.1)
