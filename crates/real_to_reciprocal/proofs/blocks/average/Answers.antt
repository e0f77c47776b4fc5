-- The mean of three legs: after q turns q runs of three numbers, the other legs' by the definition's exchange of indices.
use mathlib.Core.Path.{◌≡◌, refl, ap}
use Prim.Native.Nat.{◌+◌, ◌*◌}
use Rattle.planes.specs.Split.{split}
use Rattle.planes.proofs.SplitLaws.{split_next}
use Rattle.planes.proofs.RegionLaws.{split_join}
use Rattle.real_to_reciprocal.proofs.BlockLaws.{mean_of}
use native.Mathlib.Omega.{arith}
use Rattle.real_to_reciprocal.proofs.blocks.average.Goals as goal

pub loop-q-preserved : goal.loop-q-preserved
loop-q-preserved c =
    let inv = c.loop-q.invariant.1 in
    let q = c.loop-q.q in
    let l = c.loop-q-test.true in
    let h : 3 * q + 3 ≡ 3 * (q + 1) = omega arith in (
      omega (arith, l),
      rw h at (split_join inv c.average_run.ensures (omega arith) (omega (arith, l)) (λ n p. mean_of refl
          (split_next inv (3 * q + n) (omega arith) (omega (arith, l)))
          (ap (split c.args.second.now 0 27) (omega (arith, l)))
          (ap (split c.args.third.now 0 27) (omega (arith, l))))),
    )
