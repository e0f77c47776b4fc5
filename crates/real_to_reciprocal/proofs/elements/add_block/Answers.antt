-- Each sum with the block.
use borrow.Author.Rules.{rules}
use Rattle.real_to_reciprocal.specs.Pair.{with_block}
use Rattle.real_to_reciprocal.proofs.elements.add_block.Goals as goal

pub returns : goal.returns
returns c = c.change_each.ensures (with_block c.args.constants.now c.args.block) (λ e z r l p. search rules)
