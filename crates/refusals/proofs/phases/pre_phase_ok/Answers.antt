-- The entry of the atom is in the table, and its first vector among the vectors.
use native.Mathlib.Omega.{arith}
use mathlib.Core.Path.{refl}
use Rattle.refusals.proofs.PhaseLaws.{anchored}
use Rattle.refusals.proofs.phases.pre_phase_ok.Goals as goal

pub anchor_vector-requires : goal.anchor_vector-requires
anchor_vector-requires c =
    let a = c.args in (
      omega (arith, c.requires.0, c.requires.1.atoms),
      (anchored a.atoms a.crystal.now.vectors.now a.crystal.now.multiplicity.now a.crystal.now.forces.p2s.now a.i c.requires.1 c.requires.0).0,
    )

pub pre_phase-requires : goal.pre_phase-requires
pre_phase-requires c =
    let a = c.args in
    rw c.anchor_vector.ensures
    (anchored a.atoms a.crystal.now.vectors.now a.crystal.now.multiplicity.now a.crystal.now.forces.p2s.now a.i c.requires.1 c.requires.0).1

pub returns : goal.returns
returns c = rw (c.in_domain.ensures, c.pre_phase.ensures, c.anchor_vector.ensures) refl
