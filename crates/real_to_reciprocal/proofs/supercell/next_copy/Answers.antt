-- The search for the next copy: no atom that was passed is one.
use mathlib.Core.Path.{◌∙◌}
use borrow.Author.Rules.{rules}
use Rattle.std.proofs.lemmas.Iterator.{IsFirst-from_position, YieldsList-from_slice}
use Rattle.real_to_reciprocal.proofs.CopyLaws.{Is, IsNot, rest, rest_is, Found, found_rest, none_rest}
use Rattle.real_to_reciprocal.proofs.supercell.next_copy.Goals as goal
use Rattle.real_to_reciprocal.proofs.supercell.next_copy.Goals.{After-position}

found : (c : After-position) → Found c.args.s2p.now c.args.y c.args.from c.requires c.position.result
found c =
    let s = c.args.s2p.now in
    let y = c.args.y in
    let f = c.args.from in
    IsFirst-from_position _ _ _ (Is s y f c.requires) (IsNot s y f c.requires) c.position.ensures.ran
    (YieldsList-from_slice (rest s y f c.requires) (c.iter.ensures.rest ∙ rest_is s y f c.requires)) (λ x q p. search rules) (λ x q p. search rules)

pub returns : goal.returns
returns c = found_rest _ _ _ c.requires c.in_ok-n.n (rw c.in_ok-n.was at (found (goal.at.returns c).After-position))

pub returns-in_err-n : goal.returns-in_err-n
returns-in_err-n c = rw c.from_residual.ensures (none_rest _ c.args.y _ c.requires (rw c.in_err-n.was at (found (goal.at.returns-in_err-n c).After-position)))
