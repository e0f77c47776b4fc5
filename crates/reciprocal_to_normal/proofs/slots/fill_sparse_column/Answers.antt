-- The slots below j are visited.
use Rattle.phonon.specs.ReciprocalToNormal.{dot}
use Rattle.planes.specs.Split.{split}
use Rattle.reciprocal_to_normal.specs.Places.{number_in}
use Rattle.reciprocal_to_normal.specs.Slots.{bands_of, leg1_of, strength_in}
use Rattle.reciprocal_to_normal.proofs.SlotLaws.{visited_ext, column_step, at_slot}
use native.Mathlib.Omega.{arith}
use Rattle.reciprocal_to_normal.proofs.slots.fill_sparse_column.Goals as goal

pub loop-j-preserved : goal.loop-j-preserved
loop-j-preserved c =
    let a = c.args in
    let s = a.c in
    let p = a.p.now in
    let j = c.loop-j.j in
    let inv = c.loop-j.invariant.1 in
    let pj = c.loop-j-test.true in
    let pk = c.requires.0.1 in (
      omega (arith, pj),
      column_step _ _ _ s.bands s.b s.k j pj pk inv
          (visited_ext (rw (inv.size, c.slot.ensures) at c.fill_from_row.ensures)
          (λ n q d. at_slot s.bands s.b j s.k pj pk (λ i. strength_in p (dot (bands_of p) (split a.w.now p.row (bands_of p)) (number_in a.w.now (leg1_of p i))) i s.k) n d)),
    )
