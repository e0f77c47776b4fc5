-- The floor of x over ln 2 is the definition's k, and its bits tell the power of two.
use mathlib.Core.Path.{◌≡◌, refl, ap, ◌∙◌, sym, subst}
use native.Mathlib.Omega.{arith}
use lib.Ieee.{Float}
use Rattle.phonon.specs.Number.{◌⊕◌, float, whole}
use Rattle.phonon.specs.Exp.{count}
use Rattle.funcs.proofs.Range.{exp_whole}
use Rattle.funcs.proofs.Reducible.{in_range}
use Rattle.funcs.proofs.CountLaws.{quotient_within, floor_count, two52, Counted, counted}
use Rattle.funcs.proofs.reduce.Goals as goal
use Rattle.funcs.proofs.reduce.Goals.{After-floor_parts-whole}

-- what the floor was found to be, and what its bits tell
whole_is : (c : After-floor_parts-whole) → c.floor_parts-whole.result.whole ≡ whole (count c.args.x)
whole_is c =
    let x = c.args.x in
    let h = in_range x c.requires in
    c.floor_parts-whole.ensures.0 ∙ ap float (floor_count x h.0 h.1)

told : (c : After-floor_parts-whole) → Counted (count c.args.x) (c.floor_parts-whole.result.whole ⊕ two52)
told c =
    let x = c.args.x in
    let h = in_range x c.requires in
    subst (λ (w : Float). Counted (count x) (w ⊕ two52)) (sym (whole_is c)) (counted (count x) (omega (arith, exp_whole x h.0 h.1)))

pub floor_parts-whole-requires : goal.floor_parts-whole-requires
floor_parts-whole-requires c = let h = in_range c.args.x c.requires in quotient_within c.args.x h.0 h.1

pub float_to_bits-whole : goal.float_to_bits-whole
float_to_bits-whole c = (told (goal.at.float_to_bits-whole c).After-floor_parts-whole).number

pub power_of_two-requires : goal.power_of_two-requires
power_of_two-requires c =
    let x = c.args.x in
    let h = in_range x c.requires in
    omega (arith, (told (goal.at.power_of_two-requires c).After-floor_parts-whole).digits, exp_whole x h.0 h.1)

pub returns : goal.returns
returns c = (rw (whole_is (goal.at.returns c).After-floor_parts-whole) refl, rw (told (goal.at.returns c).After-floor_parts-whole).digits at c.power_of_two.ensures)
