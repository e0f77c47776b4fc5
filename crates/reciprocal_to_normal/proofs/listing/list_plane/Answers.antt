-- After j turns, j rows are written, and what is read stays as it was.
use mathlib.Core.Path.{ap, ◌∙◌}
use Prim.Native.Nat.{◌+◌, ◌*◌, ◌<◌}
use native.Mathlib.Nat.{add-mul}
use Rattle.phonon.specs.Number.{at}
use Rattle.planes.specs.Split.{split}
use Rattle.reciprocal_to_normal.specs.Slots.{bands_of, strength_in}
use Rattle.reciprocal_to_normal.proofs.AmplitudeLaws.{amplitude_kept}
use Rattle.reciprocal_to_normal.proofs.ListingLaws.{above_append, above_to, outside_above, row_is}
use native.Mathlib.Omega.{arith}
use Rattle.reciprocal_to_normal.proofs.listing.list_plane.Goals as goal

pub loop-j-preserved : goal.loop-j-preserved
loop-j-preserved c =
    let a = c.args in
    let p = a.p.now in
    let inv = c.loop-j.invariant.1 in
    let j = c.loop-j.j in
    let pj : j < bands_of p = c.loop-j-test.true in
    let d = bands_of p * bands_of p in (
      omega (arith, pj),
      above_to (j * bands_of p + bands_of p) ((j + 1) * bands_of p) (omega (arith, add-mul j 1 (bands_of p)))
          (above_append inv c.list_row.ensures c.requires.0
          (λ k pk. ap (λ y. strength_in p y j k) (amplitude_kept p (outside_above inv) j k pj pk)
          ∙ row_is (bands_of p) pj pk (split a.w.now p.matrix d) (split a.w.now p.leg1 d) (split a.w.now p.leg2 d) (at p.freqs1.now) (at p.freqs2.now) p.x p.cutoff)),
    )
