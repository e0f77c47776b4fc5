-- The first bands below b are done: each slot holds its strength or, flagged, what stood there.
use mathlib.Core.Path.{◌≡◌, refl}
use mathlib.Core.List.{List}
use lib.IntN.{ℤ, pos}
use mathlib.Core.Bool.{true}
use Prim.Native.Nat.{ℕ, ◌+◌, ◌-◌, ◌*◌, ◌<◌}
use Rattle.phonon.specs.Tests.{all_within}
use lib.ListN.{length}
use Rattle.phonon.specs.Number.{index, int}
use Rattle.phonon.proofs.Accepted.{index_below}
use Rattle.planes.proofs.RegionLaws.{outside_then, outside_split, outside_wider}
use Rattle.reciprocal_to_normal.specs.declared.operands.Operands.{Operands}
use Rattle.reciprocal_to_normal.specs.Slots.{b_of, j_of, k_of, slot_strength}
use Rattle.reciprocal_to_normal.proofs.SlotLaws.{visited_ext, visited_table, all_step, j_lt, b_lt}
use Rattle.reciprocal_to_normal.proofs.AmplitudeLaws.{plane_is}
use native.Mathlib.Omega.{arith}
use Rattle.reciprocal_to_normal.proofs.slots.reciprocal_to_normal_squared.Goals as goal

below : (o : Operands) (bands : List ℤ) {b n : ℕ} → n ≡ index (int bands b) → all_within (pos 0) (pos (3 * o.atoms - 1)) bands ≡ true → b < length bands → n < 3 * o.atoms
below o bands e h pb = omega (arith, e, index_below (3 * o.atoms) bands (omega (arith, o.fits.some)) h _ pb)

pub loop-b-preserved : goal.loop-b-preserved
loop-b-preserved c =
    let a = c.args in
    let o = a.o.now in
    let B = 3 * o.atoms in
    let inv = c.loop-b.invariant in
    let b = c.loop-b.b in
    let pb = c.loop-b-test.true in
    let some : 0 < B = omega (arith, o.fits.some) in
    let en = c.index_at.ensures in
    let pn = below o a.bands.now en c.requires.entries pb in
    let p = c.plane-p.ensures.0 in
    let w = c.plane-p.ensures.1 in
    let f = rw (p.atoms, p.matrix, p.leg1, p.leg2, p.row, p.x, p.freqs1, p.freqs2, p.cutoff) at c.fill_plane.ensures in
    let end = o.scratch + 2 * (B * B) + 4 * B in (
      omega (arith, pb),
      all_step _ _ _ B b some inv.1
          (visited_ext (rw inv.1.size at f.0)
          (λ m q d. plane_is o.atoms o.constants o.legs.leg0 o.legs.leg1 o.legs.leg2 o.scratch c.index_at.result pn o.fits.constants o.fits.leg0 o.fits.leg1 o.fits.leg2 inv.2 w
          o.freqs.leg0.now o.freqs.leg1.now o.freqs.leg2.now (λ i. index (int a.bands.now i)) o.cutoff b en m d.0 (j_lt B m some) d.1)),
      outside_then inv.2 (outside_then (outside_split o.scratch end (omega arith) (omega arith) refl w) (outside_wider o.scratch end (omega arith) (omega arith) f.1)),
    )

pub returns : goal.returns
unfolding slot_strength b_of j_of k_of
returns c =
    let a = c.args in
    let B = 3 * a.o.now.atoms in
    let e : c.loop-b.b ≡ length a.bands.now = omega arith in
    let some : 0 < B = omega (arith, a.o.now.fits.some) in
    let u = rw (e, c.requires.sizes.0) at c.loop-b.invariant.1 in
    (visited_table _ _ _ u c.requires.sizes.0 (λ n h. b_lt B (length a.bands.now) n some h), c.loop-b.invariant.2)
