-- `funcs::exp` meets its contract: within the range it comes from its parts, and beyond it the tests say which case of the definition holds.
-- Assumes nothing.
use mathlib.Core.Path.{◌≡◌, refl, sym, ap, ◌∙◌}
use mathlib.Core.Bool.{Bool, true, false}
use lib.Ieee.{Float, of_bits, of_int, div, lt, le}
use Rattle.phonon.specs.Number.{f0}
use Rattle.phonon.specs.Exp.{exp, by_range}
use Rattle.funcs.proofs.Range.{limit}
use Rattle.funcs.proofs.Reducible.{exp_parts, below}
use Rattle.funcs.proofs.exp.Goals as goal

-- the definition at what the two tests say
exp_at : (x : Float) (a b : Bool) → lt limit x ≡ a → le f0 x ≡ b → exp x ≡ by_range a b x
unfolding exp
exp_at x a b h l = ap (λ (t : Bool). by_range t (le f0 x) x) h ∙ ap (λ (t : Bool). by_range a t x) l

pub returns-then-is_reducible : goal.returns-then-is_reducible
unfolding of_bits of_int
returns-then-is_reducible c =
    let r = c.reduce-a.ensures in
    let p = c.exp_series_two-p.ensures in
    exp_parts c.args.x _ _ (sym c.is_reducible.ensures ∙ c.if-is_reducible.true) (p.0 ∙ rw r.0 refl) r.1

pub returns-then-x : goal.returns-then-x
unfolding by_range div of_bits
returns-then-x c = sym (exp_at c.args.x true _ c.if-x.true refl)

pub returns : goal.returns
unfolding by_range div of_bits
returns c =
    let x = c.args.x in
    sym (exp_at x false false c.if-x.false (below x (sym c.is_reducible.ensures ∙ c.if-is_reducible.false) c.if-x.false))
