-- Each sum with the first block, and with the second.
use borrow.Author.Rules.{rules}
use Rattle.real_to_reciprocal.specs.Pair.{with_block}
use Rattle.real_to_reciprocal.proofs.elements.add_two.Goals as goal

pub returns : goal.returns
returns c = c.change_each.ensures (λ e z. with_block c.args.constants.now c.args.two e (with_block c.args.constants.now c.args.one e z)) (λ e z r l p. search rules)
