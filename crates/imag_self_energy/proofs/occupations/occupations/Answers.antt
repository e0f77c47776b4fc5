-- Where both exceed the cutoff both are worked out; elsewhere each by itself.
use mathlib.Core.Path.{refl, ◌∙◌}
use Rattle.phonon.proofs.Accepted.{and_both}
use Rattle.imag_self_energy.proofs.Laws.{above}
use Rattle.imag_self_energy.proofs.occupations.occupations.Goals as goal

pub returns-then-cutoff-f : goal.returns-then-cutoff-f
returns-then-cutoff-f c =
    let h = and_both _ _ c.if-cutoff-f.true in
    let a = c.args in
    c.bose_einsteins.ensures ∙ rw (above a.temperature a.cutoff a.f h.0 refl, above a.temperature a.cutoff a.g h.1 refl) refl
