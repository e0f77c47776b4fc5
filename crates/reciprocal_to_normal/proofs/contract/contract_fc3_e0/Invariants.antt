-- After al turns each number of the planes is `contracted` at al.
use Prim.Native.Nat.{◌+◌, ◌*◌, ◌≤◌}
use Rattle.planes.specs.Split.{split, WroteSplit, strided}
use Rattle.reciprocal_to_normal.specs.Arrays.{contracted}
use Rattle.reciprocal_to_normal.proofs.contract.contract_fc3_e0.Given as goal

abbrev pub invariant-loop-al : goal.invariant-loop-al
invariant-loop-al l = (l.al ≤ l.nb) × WroteSplit l.initial.w l.w l.off (l.nb * l.nb) (l.nb * l.nb) (λ x. contracted l.al (λ k. split l.initial.w (l.fo + 2 * (k * (l.nb * l.nb))) (l.nb * l.nb) x) (strided l.initial.w l.eo (l.nb * l.nb) l.nb))
