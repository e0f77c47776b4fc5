-- The sums, each times the pre-factor.
use borrow.Author.Rules.{rules}
use Rattle.phonon.specs.Common.{cmul}
use Rattle.real_to_reciprocal.proofs.BlockLaws.{product_of}
use Rattle.real_to_reciprocal.proofs.blocks.leg_block.Goals as goal

pub returns : goal.returns
returns g c = product_of c.real_to_reciprocal_elements.ensures (c.change_each.ensures (λ e s. cmul s c.get_split-z.result) (λ e z r l p. search rules)) c.get_split-z.ensures
