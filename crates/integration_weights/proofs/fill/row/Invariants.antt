-- After i turns each of the three slices holds the first 2 * i of its table: two slots more in a turn, and a last one where the row is odd.
use Prim.Native.Nat.{◌*◌}
use Rattle.integration_weights.proofs.SlotLaws.{Row}
use Rattle.integration_weights.proofs.fill.row.Given as goal

abbrev pub invariant-loop-i : goal.invariant-loop-i
invariant-loop-i g l = Row (g.B.Broadening.shape l.of) l.x l.y l.leg (2 * l.i) l.first l.second l.flags
