-- The first bands below b have gathered.
use mathlib.Core.Path.{◌≡◌, ap, ◌∙◌}
use lib.ListN.{length}
use Rattle.phonon.specs.Number.{index, int}
use Rattle.phonon.proofs.Accepted.{index_below}
use Rattle.reciprocal_to_normal.specs.Slots.{b_of, j_of, k_of}
use Rattle.reciprocal_to_normal.specs.Listing.{gathered}
use Rattle.reciprocal_to_normal.proofs.SlotLaws.{visited_ext, visited_table, all_step, b_lt}
use Rattle.reciprocal_to_normal.proofs.FlagLaws.{plane_le}
use Rattle.reciprocal_to_normal.proofs.GatherLaws.{band_gathered}
use native.Mathlib.Omega.{arith}
use Rattle.reciprocal_to_normal.proofs.gather.gather_sixth.Goals as goal

pub gather_plane-requires : goal.gather_plane-requires
gather_plane-requires c =
    let a = c.args in
    let B = a.l.now.bands in
    let h = index_below B a.bands.now (omega (arith, c.requires.sizes.0)) c.requires.entries c.loop-b.b c.loop-b-test.true in
    omega (arith, h, c.index_at.ensures, plane_le B c.loop-b-test.true, c.loop-b.invariant.1.size)

pub loop-b-preserved : goal.loop-b-preserved
loop-b-preserved c =
    let a = c.args in
    let l = a.l.now in
    let B = l.bands in
    let inv = c.loop-b.invariant.1 in
    let b = c.loop-b.b in
    let n = c.index_at.result in
    let pb = c.loop-b-test.true in (
      omega (arith, pb),
      all_step _ _ _ B b (omega (arith, c.requires.sizes.0)) inv
          (visited_ext (rw inv.size at c.gather_plane.ensures)
          (λ m q d. ap (λ o. gathered a.w.now l.at B l.order (λ i. n) o m) (inv.rest m q (λ e. omega (arith, e, d.0)))
          ∙ band_gathered a.w.now l.at B l.order n b m (λ i. index (int a.bands.now i)) _ c.index_at.ensures d.0)),
    )

pub returns : goal.returns
unfolding gathered b_of j_of k_of
returns c =
    let a = c.args in
    let B = a.l.now.bands in
    let e : c.loop-b.b ≡ length a.bands.now = omega arith in
    let u = rw (e, c.requires.sizes.1) at c.loop-b.invariant.1 in
    visited_table _ _ _ u c.requires.sizes.1 (λ n h. b_lt B (length a.bands.now) n (omega (arith, c.requires.sizes.0)) h)
