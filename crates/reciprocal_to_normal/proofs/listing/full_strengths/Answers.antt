-- After b turns, the planes of b first bands are written.
use mathlib.Core.Path.{◌≡◌, refl, ◌∙◌}
use Prim.Native.Nat.{◌+◌, ◌*◌, ◌<◌}
use native.Mathlib.Nat.{add-mul}
use Rattle.planes.proofs.RegionLaws.{outside_split}
use Rattle.planes.proofs.Products.{row_le}
use Rattle.reciprocal_to_normal.specs.Slots.{b_of, j_of, k_of, slot_strength}
use Rattle.reciprocal_to_normal.proofs.AmplitudeLaws.{plane_is}
use Rattle.reciprocal_to_normal.proofs.ListingLaws.{above_append, above_to, above_outside, above_wider, outside_above, plane_b, j_lt_of, k_lt_of, plane_at}
use native.Mathlib.Omega.{arith}
use Rattle.reciprocal_to_normal.proofs.listing.full_strengths.Goals as goal

pub list_plane-requires : goal.list_plane-requires
list_plane-requires c =
    let B = 3 * c.args.o.now.atoms in
    let p = c.plane-p.ensures.0 in
    rw (p.atoms, p.row) (omega (arith, row_le (B * B) c.loop-b-test.true, c.loop-b.invariant.1.size, c.plane-p.ensures.1.size))

pub loop-b-preserved : goal.loop-b-preserved
loop-b-preserved c =
    let o = c.args.o.now in
    let B = 3 * o.atoms in
    let inv = c.loop-b.invariant.1 in
    let b = c.loop-b.b in
    let pb : b < B = c.loop-b-test.true in
    let p = c.plane-p.ensures.0 in
    let w = c.plane-p.ensures.1 in
    let v = rw (p.atoms, p.matrix, p.leg1, p.leg2, p.row, p.x, p.freqs1, p.freqs2, p.cutoff) at c.list_plane.ensures in
    let end = o.scratch + 2 * (B * B) + 2 * B in (
      omega (arith, pb),
      above_to (b * (B * B) + (B * B)) ((b + 1) * (B * B)) (omega (arith, add-mul b 1 (B * B)))
          (above_append inv
          (above_outside (outside_split o.scratch end (omega arith) (omega arith) refl w) (omega (arith, c.requires.0)) (above_wider o.scratch end (omega arith) (omega arith) v))
          c.requires.0
          (λ t pt. plane_at B b t pt _ _ _ _ _ _ _
          ∙ plane_is o.atoms o.constants o.legs.leg0 o.legs.leg1 o.legs.leg2 o.scratch b pb o.fits.constants o.fits.leg0 o.fits.leg1 o.fits.leg2 (outside_above inv) w
          o.freqs.leg0.now o.freqs.leg1.now o.freqs.leg2.now (λ i. i) o.cutoff b refl (b * (B * B) + t) (plane_b B b t pt) (j_lt_of B b t pt) (k_lt_of B b t pt))),
    )

pub returns : goal.returns
unfolding slot_strength b_of j_of k_of
returns c =
    let e : c.loop-b.b ≡ 3 * c.args.o.now.atoms = omega arith in
    rw e at c.loop-b.invariant.1
