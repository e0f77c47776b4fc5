-- The mean of three legs: after q turns q runs of three numbers, the other legs' by the definition's exchange of indices.
use Prim.Native.Nat.{◌*◌, ◌≤◌}
use Rattle.planes.specs.Split.{WroteSplit}
use Rattle.real_to_reciprocal.proofs.BlockLaws.{mean_at}
use Rattle.real_to_reciprocal.proofs.blocks.average.Given as goal

abbrev pub invariant-loop-q : goal.invariant-loop-q
invariant-loop-q l = (l.q ≤ 9) × WroteSplit l.initial.t l.t 0 27 (3 * l.q) (mean_at l.initial.t l.second l.third)
