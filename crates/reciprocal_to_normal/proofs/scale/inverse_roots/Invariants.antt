-- After a turns, a numbers are written.
use Prim.Native.Nat.{◌≤◌}
use Rattle.phonon.specs.ReciprocalToNormal.{inverse_root}
use Rattle.planes.specs.Region.{Wrote}
use Rattle.reciprocal_to_normal.proofs.scale.inverse_roots.Given as goal

abbrev pub invariant-loop-a : goal.invariant-loop-a
invariant-loop-a l = (l.a ≤ l.np) × Wrote l.initial.w l.w l.io l.a (inverse_root l.masses)
