-- Nine numbers stored: after n turns the box of n components of the third leg.
use mathlib.Core.Path.{◌≡◌, refl, ap}
use Prim.Native.Nat.{◌+◌, ◌*◌, ◌%◌, ◌<◌}
use Rattle.planes.specs.Split.{split}
use Rattle.real_to_reciprocal.proofs.StoredLaws.{PlaceIn, place_in, join2, run_stored}
use native.Mathlib.Omega.{arith}
use Rattle.real_to_reciprocal.proofs.blocks.store_plane.Goals as goal
use Rattle.real_to_reciprocal.proofs.blocks.store_plane.Goals.{In-loop-n}

-- row 3 * k + n is in the planes of component 3 * i + l, and these in the region
component : (c : In-loop-n) → 3 * c.args.atoms.leg0 + c.args.l < 3 * c.args.np
component c = omega (arith, c.requires.0, c.requires.1.first)

place : (c : In-loop-n) → PlaceIn c.args.np (3 * c.args.atoms.leg0 + c.args.l) (3 * c.args.atoms.leg2 + c.loop-n.n)
place c =
    place_in (component c) (omega (arith, c.requires.1.third, c.loop-n-test.true))

pub overflow_add-fo-in-loop-n : goal.overflow_add-fo-in-loop-n
overflow_add-fo-in-loop-n c =
    let p = place (goal.at.overflow_add-fo-in-loop-n c).In-loop-n in
    omega (arith, p.row, p.planes, p.square)

pub store_run-requires : goal.store_run-requires
store_run-requires c =
    let p = place (goal.at.store_run-requires c).In-loop-n in
    let l = c.loop-n-test.true in
    let j = c.requires.1.second in
    (omega (arith, c.requires.0, l), omega (arith, p.square, j), omega (arith, p.row, p.planes, j, c.requires.2, c.loop-n.invariant.1.kept.size))

pub loop-n-preserved : goal.loop-n-preserved
loop-n-preserved c =
    let a = c.args in
    let n = c.loop-n.n in
    let k = a.atoms.leg2 in
    let l = c.loop-n-test.true in
    let h : 3 * k + n + 1 ≡ 3 * k + (n + 1) = omega arith in (
      omega (arith, l),
      join2 (omega arith) (omega arith) c.loop-n.invariant.1
          (rw h at (run_stored a.fo a.np (3 * a.atoms.leg0 + a.l) a.atoms.leg1 (3 * k + n) (component (goal.at.loop-n-preserved c).In-loop-n) c.requires.1.second (omega (arith, l, c.requires.1.third))
          (λ x y z. split a.t.now 0 27 (9 * a.l + y % 3 * 3 + z % 3)) c.store_run.ensures refl refl
          (λ m q. ap (split a.t.now 0 27) (omega (arith, l))))),
    )
