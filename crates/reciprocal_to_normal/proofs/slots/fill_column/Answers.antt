-- The slots below j are visited.
use mathlib.Core.Path.{sym, ap, ◌∙◌}
use Prim.Native.Nat.{◌<◌}
use lib.ListN.{length}
use Rattle.planes.specs.Split.{split}
use Rattle.reciprocal_to_normal.specs.Slots.{strength_in}
use Rattle.reciprocal_to_normal.proofs.SlotLaws.{visited_at, visited_put, visited_pass, column_step, at_slot}
use Rattle.reciprocal_to_normal.proofs.FlagLaws.{slot_lt}
use native.Mathlib.Omega.{arith}
use Rattle.reciprocal_to_normal.proofs.slots.fill_column.Goals as goal
use Rattle.reciprocal_to_normal.proofs.slots.fill_column.Goals.{then-not-is_flagged, else-not-is_flagged}

pub loop-j-preserved : goal.loop-j-preserved
loop-j-preserved c =
    let a = c.args in
    let s = a.c in
    let j = c.loop-j.j in
    let inv = c.loop-j.invariant.1 in
    let pj = c.loop-j-test.true in
    let pk = c.requires.0.1 in
    let place = c.slot-place.ensures in
    let room : c.slot-place.result < length c.loop-j.out = omega (arith, slot_lt s.bands s.b j s.k pj pk, c.requires, inv.size, place) in
    let flag = sym c.is_flagged.ensures in (
      omega (arith, pj),
      column_step _ _ _ s.bands s.b s.k j pj pk inv
          (visited_at place (elim c.if-not-is_flagged.branch [
            | then-not-is_flagged w ↦
                rw w.out-is (visited_put _ _ _ _ _ _ room (flag ∙ w.if-not-is_flagged.true)
                (w.strength_of.ensures ∙ ap (λ y. strength_in a.p.now y j s.k) w.get_split.ensures
                ∙ at_slot s.bands s.b j s.k pj pk (λ i. strength_in a.p.now (split a.w.now a.ao s.bands i) i s.k) _ place))
            | else-not-is_flagged w ↦ rw w.out-is (visited_pass _ _ _ _ _ (flag ∙ w.if-not-is_flagged.false))
          ])),
    )
