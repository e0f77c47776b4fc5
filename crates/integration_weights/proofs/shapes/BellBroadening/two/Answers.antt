-- Where both are cut, both are 0.0; elsewhere each is what its own test says.
use Rattle.phonon.proofs.Accepted.{and_both}
use Rattle.integration_weights.proofs.ShapeLaws.{far, either, pair, pair_at}
use Rattle.integration_weights.proofs.shapes.BellBroadening.two.Goals as goal

pub returns-then-a-b : goal.returns-then-a-b
returns-then-a-b c =
    let h = and_both _ _ c.if-a-b.true in
    pair (far _ _ c.is_cut-a.ensures h.0) (far _ _ c.is_cut-b.ensures h.1)

pub returns : goal.returns
returns c =
    let e = pair_at c.exps-x.ensures in
    pair
    (either _ _ c.is_cut-a.ensures _ c.argument.ensures e.0 c.value.ensures)
    (either _ _ c.is_cut-b.ensures _ c.argument-2.ensures e.1 c.value-2.ensures)
