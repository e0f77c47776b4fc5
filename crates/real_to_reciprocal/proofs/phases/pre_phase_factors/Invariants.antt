-- The pre-factors: after i turns those of i atoms.
use Prim.Native.Nat.{◌≤◌}
use Rattle.phonon.specs.RealToReciprocal.{pre_factor_entry}
use Rattle.planes.specs.Split.{WroteSplit}
use Rattle.real_to_reciprocal.proofs.phases.pre_phase_factors.Given as goal

abbrev pub invariant-loop-i : goal.invariant-loop-i
invariant-loop-i l = (l.i ≤ l.np) × WroteSplit l.initial.w l.w l.off l.np l.i (pre_factor_entry l.np l.crystal.vectors.now l.crystal.multiplicity.now l.crystal.forces.p2s.now l.q)
