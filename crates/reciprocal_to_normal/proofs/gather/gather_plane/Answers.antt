-- The columns below k have gathered.
use mathlib.Core.Path.{ap}
use Rattle.reciprocal_to_normal.specs.Listing.{gathered}
use Rattle.reciprocal_to_normal.proofs.SlotLaws.{visited_ext, plane_step}
use native.Mathlib.Omega.{arith}
use Rattle.reciprocal_to_normal.proofs.gather.gather_plane.Goals as goal

pub loop-k-preserved : goal.loop-k-preserved
loop-k-preserved c =
    let a = c.args in
    let inv = c.loop-k.invariant.1 in
    let pk = c.loop-k-test.true in (
      omega (arith, pk),
      plane_step _ _ _ a.l.now.bands a.b c.loop-k.k (omega (arith, c.requires.0)) inv
          (visited_ext (rw inv.size at c.gather_column.ensures)
          (λ m q d. ap (λ o. gathered a.w.now a.l.now.at a.l.now.bands a.l.now.order (λ i. a.n) o m) (inv.rest m q (λ e. omega (arith, e.1, d.1))))),
    )
