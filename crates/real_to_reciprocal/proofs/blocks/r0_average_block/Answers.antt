-- The mean of the three legs' sums times their pre-factors is the definition's element.
use Rattle.real_to_reciprocal.proofs.BlockLaws.{averaged_of}
use Rattle.real_to_reciprocal.proofs.blocks.r0_average_block.Goals as goal

pub returns : goal.returns
returns g c =
    averaged_of _ _ _ _ _ _ c.leg_block.ensures (rw (c.picked.ensures, c.picked-2.ensures) at c.leg_block-2.ensures) (rw (c.picked-3.ensures, c.picked-4.ensures) at c.leg_block-3.ensures)
    c.average.ensures
