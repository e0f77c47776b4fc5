-- `funcs::sin_cos` meets its contract: the calls' results are the definition's parts. Assumes nothing.
use mathlib.Core.Path.{sym, ap, ◌∙◌}
use lib.Ieee.{of_bits, div}
use Rattle.phonon.specs.Number.{at}
use Rattle.phonon.specs.Trig.{by_domain}
use Rattle.funcs.proofs.Quarters.{inside, outside}
use Rattle.funcs.proofs.sin_cos.Goals as goal

pub returns-then-in_domain : goal.returns-then-in_domain
returns-then-in_domain c =
    let p = c.both_series.ensures in
    let a = c.quartered-a.ensures in
    inside _ _ _ _ _ _ (sym c.in_domain.ensures ∙ c.if-in_domain.true) a.0 a.1 (ap (λ l. at l 0) p) (ap (λ l. at l 1) p) c.turned.ensures

pub returns : goal.returns
unfolding by_domain of_bits div
returns c = outside c.args.x (sym c.in_domain.ensures ∙ c.if-in_domain.false)
