-- After j turns the slots of the first j rows are written; a turn has its row lent and put back.
use Prim.Native.Nat.{◌*◌}
use lib.ListN.{length}
use Rattle.integration_weights.specs.Rows.{block_slot}
use Rattle.integration_weights.proofs.SlotLaws.{Slots}
use Rattle.integration_weights.proofs.fill.fill_block.Given as goal

abbrev pub invariant-loop-j : goal.invariant-loop-j
invariant-loop-j l = Slots (block_slot l.s l.x l.leg1 l.leg2) (length l.leg1 * length l.leg2) (l.j * length l.leg2) l.first l.second l.flags
