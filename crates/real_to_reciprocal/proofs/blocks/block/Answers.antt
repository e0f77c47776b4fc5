-- The block, by the anchoring.
use Rattle.real_to_reciprocal.proofs.BlockLaws.{plain_block, averaged_block}
use Rattle.real_to_reciprocal.proofs.blocks.block.Goals as goal

pub returns-in-Plain : goal.returns-in-Plain
returns-in-Plain g c = plain_block _ _ _ _ _ _ _ c.in-Plain.is c.leg_block.ensures

pub returns-in-Averaged : goal.returns-in-Averaged
returns-in-Averaged g c = averaged_block _ _ _ _ _ _ _ c.in-Averaged.is c.r0_average_block.ensures
