-- A call with a choice that is not known is answered with 255 and left as it is; any other is the door's.
use Rattle.wirambolo_c.proofs.Laws.{given, missing, strengths_unread, strengths_answered}
use Rattle.wirambolo_c.proofs.wirambolo_get_interaction_at_triplet.Goals as goal

pub returns-in_default : goal.returns-in_default
returns-in_default c = strengths_unread _ _ _ (missing _ _ c.choices_of.ensures c.in_default.is)

pub returns : goal.returns
returns c =
    let k = given _ _ c.choices_of.ensures c.in-Some.is in
    rw c.number_of.ensures (strengths_answered _ _ k.0 (rw k.1 at c.get_interaction_at_triplet.ensures))
