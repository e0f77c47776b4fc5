-- The phase factors of one atom: after j turns those of j supercell atoms, each by its entry of the multiplicities.
use Prim.Native.Nat.{◌+◌, ◌*◌, ◌≤◌}
use Rattle.phonon.specs.Interaction.{leg}
use Rattle.phonon.specs.RealToReciprocal.{phase_factor_entry}
use Rattle.real_to_reciprocal.specs.Three.{WroteThree}
use Rattle.real_to_reciprocal.proofs.phases.phase_factor_row.Given as goal

abbrev pub invariant-loop-j : goal.invariant-loop-j
invariant-loop-j l = (l.j ≤ l.ns) × WroteThree l.initial.w l.w l.fo (l.np * l.ns) (l.i * l.ns) (l.i * l.ns + l.j) (λ x. phase_factor_entry l.np l.ns l.vectors l.multiplicity (leg l.q x))
