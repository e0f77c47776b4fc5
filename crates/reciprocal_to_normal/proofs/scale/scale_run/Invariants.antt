-- After t turns, t numbers are written.
use Prim.Native.Nat.{◌+◌, ◌≤◌}
use Rattle.phonon.specs.Common.{scale, cat}
use Rattle.planes.specs.Split.{WroteSplit}
use Rattle.reciprocal_to_normal.proofs.scale.scale_run.Given as goal

abbrev pub invariant-loop-t : goal.invariant-loop-t
invariant-loop-t l = (l.t ≤ l.count) × WroteSplit l.initial.w l.w l.off l.d l.t (λ k. scale (cat l.x (l.from + k)) l.s)
