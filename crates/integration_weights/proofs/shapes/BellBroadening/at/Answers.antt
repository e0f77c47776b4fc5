-- Far off, and near.
use Rattle.integration_weights.proofs.ShapeLaws.{far, near}
use Rattle.integration_weights.proofs.shapes.BellBroadening.at.Goals as goal

pub returns-then-is_cut : goal.returns-then-is_cut
returns-then-is_cut c = far _ _ c.is_cut.ensures c.if-is_cut.true

pub returns : goal.returns
returns c = near _ _ c.is_cut.ensures c.if-is_cut.false c.exp.ensures
