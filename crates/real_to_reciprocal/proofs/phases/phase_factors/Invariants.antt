-- The phase factors of the three legs: after i turns those of i atoms, row behind row.
use Prim.Native.Nat.{◌*◌, ◌≤◌}
use Rattle.phonon.specs.Interaction.{leg}
use Rattle.phonon.specs.RealToReciprocal.{phase_factor_entry}
use Rattle.real_to_reciprocal.specs.Three.{WroteThree}
use Rattle.real_to_reciprocal.proofs.phases.phase_factors.Given as goal

abbrev pub invariant-loop-i : goal.invariant-loop-i
invariant-loop-i l = (l.i ≤ l.np) × WroteThree l.initial.w l.w l.fo (l.np * l.ns) 0 (l.i * l.ns) (λ x. phase_factor_entry l.np l.ns l.crystal.vectors.now l.crystal.multiplicity.now (leg l.q x))
