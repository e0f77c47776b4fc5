-- Each atom is tested.
use native.Mathlib.Omega.{arith}
use mathlib.Core.Path.{refl, ◌∙◌}
use Rattle.std.proofs.Common.{rules}
use Rattle.std.proofs.lemmas.Iterator.{YieldsList-from_range}
use Rattle.std.proofs.lemmas.Iterator.Search.{all_from_yields_List}
use Rattle.checks.proofs.Laws.{all_below}
use Rattle.refusals.proofs.PhaseLaws.{atom_fine, atoms_are}
use Rattle.refusals.proofs.phases.pre_phases_ok.Goals as goal

pub returns : goal.returns
returns c =
    let a = c.args in
    let fine = atom_fine a.atoms a.crystal.now.vectors.now a.crystal.now.multiplicity.now a.crystal.now.forces.p2s.now a.q.now in
    all_from_yields_List fine _ _ _ c.all.ensures.ran (YieldsList-from_range 0 a.atoms a.atoms refl (omega arith)) (λ x b q k. search rules)
    ∙ all_below fine a.atoms
    ∙ atoms_are a.atoms a.crystal.now.vectors.now a.crystal.now.multiplicity.now a.crystal.now.forces.p2s.now a.q.now
