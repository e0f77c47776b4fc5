-- After b turns the slots of the first b blocks are written; a turn has its block lent and put back.
use Prim.Native.Nat.{◌+◌, ◌*◌, ◌≤◌}
use native.Mathlib.Nat.{mul-le-mul_right, zero-mul}
use native.Mathlib.Omega.{arith}
use mathlib.Core.Path.{sym}
use lib.ListN.{length}
use Rattle.phonon.specs.Number.{at}
use Rattle.planes.proofs.Products.{row_next}
use Rattle.integration_weights.specs.Rows.{block_slot}
use Rattle.integration_weights.proofs.SlotLaws.{slots_none, slots_part, slots_at, in_all}
use Rattle.integration_weights.proofs.fill.fill_weights.Goals as goal
use Rattle.integration_weights.proofs.fill.fill_weights.Goals.{In-loop-b}

-- the block of a turn lies within each slice
fits : (c : In-loop-b) → c.loop-b.b * (length c.args.legs.leg1.now * length c.args.legs.leg2.now) + length c.args.legs.leg1.now * length c.args.legs.leg2.now ≤ length c.args.bands.now * (length c.args.legs.leg1.now * length c.args.legs.leg2.now)
fits c =
    let n = length c.args.legs.leg1.now * length c.args.legs.leg2.now in
    omega (arith, row_next c.loop-b.b n, mul-le-mul_right n c.loop-b-test.true)

pub loop-b-init : goal.loop-b-init
loop-b-init c = slots_at _ _ (slots_none _ _ c.requires.3) (sym (zero-mul (length c.args.legs.leg1.now * length c.args.legs.leg2.now)))

pub loop-b-preserved : goal.loop-b-preserved
loop-b-preserved c =
    let a = c.args in
    let b = c.loop-b.b in
    let n = length a.legs.leg1.now * length a.legs.leg2.now in
    slots_at _ _
    (slots_part _ _ c.loop-b.invariant n (block_slot a.s (at a.legs.leg0.now c.index_at.result) a.legs.leg1.now a.legs.leg2.now) (fits (goal.at.loop-b-preserved c).In-loop-b)
    (in_all a.s a.bands.now a.legs.leg0.now a.legs.leg1.now a.legs.leg2.now b c.index_at.ensures) c.fill_block.ensures)
    (row_next b n)
