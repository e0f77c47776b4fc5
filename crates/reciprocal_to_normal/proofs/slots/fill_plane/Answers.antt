-- The columns below k are visited, and what is read stays as it was.
use Rattle.planes.proofs.RegionLaws.{outside_then}
use Rattle.reciprocal_to_normal.specs.Slots.{bands_of}
use Rattle.reciprocal_to_normal.proofs.SlotLaws.{visited_ext, plane_step}
use Rattle.reciprocal_to_normal.proofs.AmplitudeLaws.{slot_kept}
use native.Mathlib.Omega.{arith}
use Rattle.reciprocal_to_normal.proofs.slots.fill_plane.Goals as goal

pub loop-k-preserved : goal.loop-k-preserved
loop-k-preserved c =
    let a = c.args in
    let p = a.p.now in
    let inv = c.loop-k.invariant in
    let k = c.loop-k.k in
    let pk = c.loop-k-test.true in (
      omega (arith, pk),
      plane_step _ _ _ (bands_of p) a.b k (omega (arith, p.fits.0)) inv.1
          (visited_ext (rw inv.1.size at c.fill_pair.ensures.0) (λ n q d. slot_kept p inv.2 n d.2 (omega (arith, d.1, pk)))),
      outside_then inv.2 c.fill_pair.ensures.1,
    )
