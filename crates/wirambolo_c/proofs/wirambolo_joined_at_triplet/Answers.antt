-- A call with a choice that is not known is answered with 255 and left as it is; any other is the door's.
use mathlib.Core.Path.{refl}
use mir.Syntax.{w64}
use mir.ValLaws.{to_z-of_z}
use Rattle.wirambolo_c.proofs.Laws.{given, missing, joined_unread, joined_answered}
use Rattle.wirambolo_c.proofs.wirambolo_joined_at_triplet.Goals as goal

pub returns-in_default : goal.returns-in_default
returns-in_default c = joined_unread _ _ (missing _ _ c.choices_of.ensures c.in_default.is)

pub returns : goal.returns
returns c =
    let k = given _ _ c.choices_of.ensures c.in-Some.is in
    rw c.number_of.ensures (joined_answered _ _ _ k.0 (rw (k.1, to_z-of_z w64 _ c.ranges.weight) at c.joined_at_triplet.ensures) refl)
