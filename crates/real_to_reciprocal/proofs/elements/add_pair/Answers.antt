-- The turn of a pair: nothing where it is zero or passed, else its term.
use mathlib.Core.Path.{sym, ◌∙◌}
use borrow.Author.Rules.{rules}
use Rattle.real_to_reciprocal.proofs.PairLaws.{pair_zero, pair_passed, pair_added}
use Rattle.real_to_reciprocal.proofs.HeldLaws.{settled_ext}
use Rattle.real_to_reciprocal.proofs.elements.add_pair.Goals as goal

pub returns-then-nonzero-n-eq0 : goal.returns-then-nonzero-n-eq0
returns-then-nonzero-n-eq0 c =
    record { size = search rules; room = c.requires.6; sum = λ e l. pair_zero _ _ _ _ _ _ _ _ _ _ _ e _ c.if-nonzero-n-eq0.true }

pub returns-then-passes : goal.returns-then-passes
returns-then-passes c =
    record { size = search rules; room = c.requires.6; sum = λ e l. pair_passed _ _ _ _ _ _ _ _ _ _ _ e _ (sym c.passes.ensures ∙ c.if-passes.true) }

pub returns : goal.returns
returns c =
    settled_ext c.take_block.ensures
    (λ e h. pair_added _ _ _ _ _ _ _ _ _ _ _ e _ c.if-nonzero-n-eq0.false c.passes.ensures c.if-passes.false c.get_split.ensures c.get_split-2.ensures c.cmplx_mul-p.ensures c.factor.ensures c.cmplx_scale.ensures)
