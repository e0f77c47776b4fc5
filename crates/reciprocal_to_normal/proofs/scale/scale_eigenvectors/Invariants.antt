-- After a turns, the runs of a atoms are written; then each column is the definition's.
use Prim.Native.Nat.{◌*◌, ◌≤◌}
use Rattle.planes.specs.Split.{WroteSplit}
use Rattle.reciprocal_to_normal.proofs.ScaleLaws.{scaled}
use Rattle.reciprocal_to_normal.proofs.scale.scale_eigenvectors.Given as goal

abbrev pub invariant-loop-a : goal.invariant-loop-a
invariant-loop-a l = (l.a ≤ l.np) × WroteSplit l.initial.w l.w l.eo (3 * l.np * (3 * l.np)) (l.a * (3 * (3 * l.np))) (scaled l.eigenvectors l.initial.w l.io l.np l.g)
