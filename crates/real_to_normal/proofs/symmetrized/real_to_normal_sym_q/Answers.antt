-- After o turns each slot that is not flagged holds the first o sixths, summed in turn.
use mathlib.Core.Path.{sym, ◌∙◌, subst}
use Prim.Native.Nat.{◌*◌, ◌<◌}
use native.Mathlib.Omega.{arith}
use lib.ListN.{get_or}
use Rattle.phonon.specs.Handed.{tables_of}
use Rattle.planes.proofs.RegionLaws.{outside_none, outside_then}
use Rattle.planes.proofs.WorkLaws.{numbers_below}
use Rattle.planes.proofs.Products.{row_le}
use Rattle.planes.proofs.LegOrders.{orders_lt}
use Rattle.real_to_normal.proofs.SixLaws.{six_turn, six_none}
use Rattle.real_to_normal.proofs.symmetrized.real_to_normal_sym_q.Goals as goal

pub loop-o-init : goal.loop-o-init
loop-o-init c =
    let a = c.args in
    let p = c.requires in (
      omega arith,
      c.fill.ensures.after (λ y e. e) ∙ six_none (tables_of a.p.now.tables.now) a.p.now.q a.w.now a.p.now.g a.flags.now p.sizes.0 p.slots.bands p.slots.strengths,
      outside_none _ _ _,
    )

pub add_order-requires-clause-factors : goal.add_order-requires-clause-factors
add_order-requires-clause-factors c =
    let m = c.args.p.now.tables.now.measures in
    record { factors = λ x h. numbers_below c.loop-o.invariant.2 _ _ _ (omega (arith, row_le (2 * (m.atoms * m.supercell)) h)) ∙ c.requires.factors.factors x h }

pub add_order-requires-clause-legs : goal.add_order-requires-clause-legs
add_order-requires-clause-legs c =
    let loop = c.loop-o in
    let less : loop.o < 6 = omega (arith, c.loop-o-test.true) in
    let e = c.order_at.ensures in
    record {
      leg0 = subst (λ d. get_or d 0 0 < 3) (sym e) (orders_lt loop.o 0 less (omega arith));
      leg1 = subst (λ d. get_or d 1 0 < 3) (sym e) (orders_lt loop.o 1 less (omega arith));
      leg2 = subst (λ d. get_or d 2 0 < 3) (sym e) (orders_lt loop.o 2 less (omega arith));
    }

pub loop-o-preserved : goal.loop-o-preserved
loop-o-preserved c =
    let loop = c.loop-o in
    let a = c.args in
    let p = c.requires in
    let less : loop.o < 6 = omega (arith, c.loop-o-test.true) in
    let r = c.add_order.ensures in (
      omega arith,
      six_turn (tables_of a.p.now.tables.now) a.p.now.q a.w.now a.p.now.g a.flags.now p.sizes.0 p.slots.bands loop.o less loop.invariant.2 c.order_at.ensures loop.invariant.1 r.0,
      outside_then loop.invariant.2 r.1,
    )
