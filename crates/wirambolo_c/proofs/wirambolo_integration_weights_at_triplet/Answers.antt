-- A call with a shape that is not known is answered with 255 and left as it is; any other is the door's.
use Rattle.wirambolo_c.proofs.Laws.{given, missing, weights_unread, weights_answered}
use Rattle.wirambolo_c.proofs.wirambolo_integration_weights_at_triplet.Goals as goal

pub returns-in_default : goal.returns-in_default
returns-in_default c = weights_unread _ _ (missing _ _ c.shape_of.ensures c.in_default.is)

pub returns : goal.returns
returns c =
    let k = given _ _ c.shape_of.ensures c.in-Some.is in
    rw c.number_of.ensures (weights_answered _ _ k.0 (rw k.1 at c.integration_weights_at_triplet.ensures))
