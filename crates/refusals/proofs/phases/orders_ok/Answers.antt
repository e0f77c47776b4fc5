-- Each order that is counted is tested.
use native.Mathlib.Omega.{arith}
use mathlib.Core.Path.{refl, ◌∙◌}
use Rattle.std.proofs.Common.{rules}
use Rattle.std.proofs.lemmas.Iterator.{YieldsList-from_range}
use Rattle.std.proofs.lemmas.Iterator.Search.{all_from_yields_List}
use Rattle.checks.proofs.Laws.{all_below}
use Rattle.refusals.proofs.PhaseLaws.{order_fine, orders_are, picked_exchanged}
use Rattle.refusals.proofs.phases.orders_ok.Goals as goal

pub returns : goal.returns
returns c =
    let a = c.args in
    let fine = order_fine a.atoms a.crystal.now.vectors.now a.crystal.now.multiplicity.now a.crystal.now.forces.p2s.now a.q.now in
    all_from_yields_List fine _ _ _ c.all.ensures.ran (YieldsList-from_range 0 c.order_count.result c.order_count.result refl (omega arith)) (λ x b q k. search (rules, picked_exchanged))
    ∙ all_below fine c.order_count.result
    ∙ rw c.order_count.ensures (orders_are a.atoms a.symmetry a.crystal.now.vectors.now a.crystal.now.multiplicity.now a.crystal.now.forces.p2s.now a.q.now)
