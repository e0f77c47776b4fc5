-- Three numbers stored: those below m are written.
use Prim.Native.Nat.{◌+◌, ◌*◌, ◌≤◌}
use Rattle.planes.specs.Split.{split, WroteSplit}
use Rattle.real_to_reciprocal.proofs.blocks.store_run.Given as goal

abbrev pub invariant-loop-m : goal.invariant-loop-m
invariant-loop-m l = (l.m ≤ 3) × WroteSplit l.initial.w l.w l.at l.d l.m (λ k. split l.t 0 27 (l.e + 3 * k))
