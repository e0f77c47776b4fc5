-- The numbers below x are written.
use Prim.Native.Nat.{◌≤◌}
use Rattle.phonon.specs.Common.{cadd, cmul}
use Rattle.planes.specs.Split.{split, WroteSplit}
use Rattle.reciprocal_to_normal.proofs.contract.add_planes.Given as goal

abbrev pub invariant-loop-x : goal.invariant-loop-x
invariant-loop-x l = (l.x ≤ l.d) × WroteSplit l.initial.w l.w l.off l.d l.x (λ k. cadd (split l.initial.w l.off l.d k) (cmul (split l.initial.w l.fo l.d k) l.e))
