-- The sums over pairs: the outer loop has the turns of all j that it came past, the inner one also those of k, from copy to copy.
use native.Mathlib.Omega.{arith}
use Rattle.phonon.proofs.Laws.{pair_lt}
use Rattle.planes.proofs.ColsLaws.{cols_ext}
use Rattle.real_to_reciprocal.proofs.CopyLaws.{next_at, next_first}
use Rattle.real_to_reciprocal.proofs.ShapeLaws.{pair_in}
use Rattle.real_to_reciprocal.proofs.HeldLaws.{settled_cols}
use Rattle.real_to_reciprocal.proofs.ElementLaws.{k_start, k_turn, j_start, j_turn, element_by}
use Rattle.real_to_reciprocal.proofs.elements.real_to_reciprocal_elements.Goals as goal

pub loop-second-init : goal.loop-second-init
loop-second-init g c =
    let n = c.first_copy-second.ensures in
    (next_at _ _ _ _ _ n, j_start _ _ _ _ _ _ _ _ _ _ _ _ (next_first _ _ _ _ _ n))

pub loop-third-init : goal.loop-third-init
loop-third-init g c =
    let n = c.first_copy-third.ensures in
    (next_at _ _ _ _ _ n, k_start _ _ _ _ _ _ _ _ _ _ _ _ c.in-Some.j (rw c.in-Some.is at c.loop-second.invariant.1) (next_first _ _ _ _ _ n))

pub add_pair-held-requires : goal.add_pair-held-requires
add_pair-held-requires g c =
    let jt = (rw c.in-Some.is at c.loop-second.invariant.0).0 in
    let kt = (rw c.in-Some-third.is at c.loop-third.invariant.0).0 in
    let e = pair_in c.args.cell.now.shaped c.row_of.ensures c.requires.2.first jt kt in (
      kt,
      e.shortest,
      e.nonzero,
      e.constants,
      omega (arith, c.requires.0, pair_lt c.requires.2.first jt),
      omega (arith, c.requires.1, pair_lt c.requires.2.first kt),
      c.loop-third.invariant.1.room,
    )

pub loop-third-preserved : goal.loop-third-preserved
loop-third-preserved g c =
    let k = c.in-Some-third.k in
    let e = (rw c.in-Some-third.is at c.loop-third.invariant.0).1 in
    let s = rw c.in-Some-third.is at c.loop-third.invariant.1 in
    let n = c.copy_after-third.ensures in
    (rw e at (next_at _ _ _ _ _ n), k_turn _ _ _ _ _ _ _ _ _ _ _ _ c.in-Some.j k s c.add_pair-held.ensures e (next_first _ _ _ _ _ n))

pub loop-second-preserved : goal.loop-second-preserved
loop-second-preserved g c =
    let j = c.in-Some.j in
    let e = (rw c.in-Some.is at c.loop-second.invariant.0).1 in
    let n = c.copy_after-second.ensures in
    (rw e at (next_at _ _ _ _ _ n), j_turn _ _ _ _ _ _ _ _ _ _ _ _ j (rw c.in_default-third.is at c.loop-third.invariant.1) e (next_first _ _ _ _ _ n))

pub returns : goal.returns
returns g c =
    cols_ext (settled_cols (rw c.in_default.is at c.loop-second.invariant.1) c.add_held.ensures) (λ e l. element_by _ _ _ _ _ _ _ _ e _ c.row_of.ensures)
