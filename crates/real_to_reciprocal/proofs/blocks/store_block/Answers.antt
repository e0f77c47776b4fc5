-- The 27 numbers stored: after l turns the box of l components of the first leg.
use mathlib.Core.Path.{◌≡◌, ap}
use Prim.Native.Nat.{◌+◌, ◌*◌, ◌%◌}
use Rattle.planes.specs.Split.{split}
use Rattle.real_to_reciprocal.proofs.StoredLaws.{stored_ext, join0}
use native.Mathlib.Omega.{arith}
use Rattle.real_to_reciprocal.proofs.blocks.store_block.Goals as goal

pub loop-l-preserved : goal.loop-l-preserved
loop-l-preserved c =
    let l = c.loop-l.l in
    let i = c.args.atoms.leg0 in
    let p = c.loop-l-test.true in
    let h : 3 * i + l + 1 ≡ 3 * i + (l + 1) = omega arith in (
      omega (arith, p),
      join0 (omega arith) (omega arith) c.loop-l.invariant.1
          (rw h at (stored_ext (λ x y z. split c.args.t.now 0 27 (x % 3 * 9 + y % 3 * 3 + z % 3)) c.store_plane.ensures
          (λ x y z b. ap (split c.args.t.now 0 27) (omega (arith, p, b.leg0.low, b.leg0.high))))),
    )
