-- The source's formula, of each.
use Rattle.std.proofs.Common.{rules, ◌≡◌, ◌<◌, length, ℕ, ap, ◌∙◌}
use lib.Ieee.{nan}
use Rattle.std.proofs.lemmas.List.{get_or-map}
use Rattle.phonon.specs.Number.{◌⊖◌, ◌⊘◌, f1, at}
use Rattle.phonon.specs.Exp as Exp
use Rattle.phonon.specs.Funcs.{excess, bose_einstein}
use Rattle.funcs.proofs.Changed.{changed_whole}
use Rattle.funcs.proofs.bose_einsteins.Goals as goal

pub returns : goal.returns
unfolding bose_einstein excess
returns g c =
    let x = c.args.x in
    let q = c.loop-y.y-items in
    let e : (j : ℕ) → j < length x → at c.exps-n.result j ≡ Exp.exp (at x j ⊘ c.args.temperature) =
    λ j h. ap (λ l. at l j) c.exps-n.ensures ∙ get_or-map Exp.exp q j nan nan (search rules) ∙ ap Exp.exp (c.loop-y.invariant.done j (search rules)) in
    changed_whole _ x (search rules) (search rules) (λ j h. ap (λ y. f1 ⊘ (y ⊖ f1)) (e j h)) c.loop-y-2.invariant
