-- At each place the term of the block, above temperature 0 or at it.
use mathlib.Core.Path.{refl, ◌∙◌}
use borrow.Author.Rules.{rules}
use Rattle.imag_self_energy.specs.Lists.{warm_term, cold_term, place_term}
use Rattle.imag_self_energy.proofs.listed.sum_listed.Goals as goal

pub returns-then-slots : goal.returns-then-slots
unfolding place_term warm_term
returns-then-slots c =
    c.sum_of.ensures (warm_term c.args.slots.now.shared.weight c.args.factors.now c.part_of-x.result.now c.part_of-y.result.now c.part_of-v.result.now) (λ i r l p. search rules)
    ∙ rw (c.if-slots.true, c.part_of-x.ensures.0, c.part_of-y.ensures.0, c.part_of-v.ensures.0) refl

pub returns : goal.returns
unfolding place_term cold_term
returns c =
    c.sum_of-2.ensures (cold_term c.args.slots.now.shared.weight c.part_of-x.result.now c.part_of-v.result.now) (λ i r l p. search rules)
    ∙ rw (c.if-slots.false, c.part_of-x.ensures.0, c.part_of-v.ensures.0) refl
