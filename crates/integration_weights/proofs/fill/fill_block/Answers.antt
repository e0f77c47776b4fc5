-- After j turns the slots of the first j rows are written; a turn has its row lent and put back.
use Prim.Native.Nat.{◌+◌, ◌*◌, ◌≤◌}
use native.Mathlib.Nat.{mul-le-mul_right, zero-mul}
use native.Mathlib.Omega.{arith}
use mathlib.Core.Path.{sym}
use lib.ListN.{length}
use Rattle.phonon.specs.Number.{at}
use Rattle.planes.proofs.Products.{row_next}
use Rattle.integration_weights.specs.Rows.{row_slot}
use Rattle.integration_weights.proofs.SlotLaws.{slots_none, slots_part, slots_at, in_block}
use Rattle.integration_weights.proofs.fill.fill_block.Goals as goal
use Rattle.integration_weights.proofs.fill.fill_block.Goals.{In-loop-j}

-- the row of a turn lies within each slice
fits : (c : In-loop-j) → c.loop-j.j * length c.args.leg2.now + length c.args.leg2.now ≤ length c.args.leg1.now * length c.args.leg2.now
fits c =
    let n = length c.args.leg2.now in
    omega (arith, row_next c.loop-j.j n, mul-le-mul_right n c.loop-j-test.true)

pub loop-j-init : goal.loop-j-init
loop-j-init c = slots_at _ _ (slots_none _ _ c.requires.0) (sym (zero-mul (length c.args.leg2.now)))

pub loop-j-preserved : goal.loop-j-preserved
loop-j-preserved c =
    let a = c.args in
    let j = c.loop-j.j in
    let n = length a.leg2.now in
    slots_at _ _
    (slots_part _ _ c.loop-j.invariant n (row_slot a.s a.x (at a.leg1.now j) a.leg2.now) (fits (goal.at.loop-j-preserved c).In-loop-j) (in_block a.s a.x a.leg1.now a.leg2.now j) c.fill_row.ensures)
    (row_next j n)
