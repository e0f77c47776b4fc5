-- The numbers below x are zero.
use Prim.Native.Nat.{◌≤◌}
use Rattle.phonon.specs.Common.{czero}
use Rattle.planes.specs.Split.{WroteSplit}
use Rattle.reciprocal_to_normal.proofs.contract.clear_planes.Given as goal

abbrev pub invariant-loop-x : goal.invariant-loop-x
invariant-loop-x l = (l.x ≤ l.d) × WroteSplit l.initial.w l.w l.off l.d l.x (λ k. czero)
