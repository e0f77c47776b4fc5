-- The slots below j have gathered.
use Rattle.reciprocal_to_normal.proofs.SlotLaws.{visited_ext, column_step, after_column}
use Rattle.reciprocal_to_normal.proofs.GatherLaws.{slot_gathered}
use Prim.Native.Nat.{◌<◌}
use native.Mathlib.Omega.{arith}
use Rattle.reciprocal_to_normal.proofs.gather.gather_column.Goals as goal

pub loop-j-preserved : goal.loop-j-preserved
loop-j-preserved c =
    let a = c.args in
    let s = a.c in
    let l = a.l.now in
    let B = l.bands in
    let j = c.loop-j.j in
    let inv = c.loop-j.invariant.1 in
    let pj = c.loop-j-test.true in
    let pk : s.k < B = omega (arith, c.requires.0.1, c.requires.1) in (
      omega (arith, pj),
      column_step _ _ _ B s.b s.k j pj pk inv
          (visited_ext (rw (inv.size, c.slot.ensures, c.requires.1) at c.gather_slot.ensures)
          (λ m q d. slot_gathered a.w.now l.at B l.order a.n s.b j s.k m pj pk d c.source_place-p.result
          (inv.rest m q (λ e. after_column B s.b j s.k pj pk m d e.2)) c.source_place-p.ensures.0)),
    )
