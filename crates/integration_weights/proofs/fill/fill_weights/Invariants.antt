-- After b turns the slots of the first b blocks are written; a turn has its block lent and put back.
use Prim.Native.Nat.{◌*◌}
use lib.ListN.{length}
use Rattle.integration_weights.specs.Rows.{slot_in}
use Rattle.integration_weights.proofs.SlotLaws.{Slots}
use Rattle.integration_weights.proofs.fill.fill_weights.Given as goal

abbrev pub invariant-loop-b : goal.invariant-loop-b
invariant-loop-b l = Slots (slot_in l.s l.bands l.legs.leg0.now l.legs.leg1.now l.legs.leg2.now) (length l.bands * (length l.legs.leg1.now * length l.legs.leg2.now)) (l.b * (length l.legs.leg1.now * length l.legs.leg2.now)) l.first l.second l.flags
