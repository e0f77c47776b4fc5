-- If all slots are flagged nothing is done; otherwise the row and the dots, one by one or all at once, give each slot's amplitude.
use mathlib.Core.Path.{refl, sym, ◌∙◌}
use Prim.Native.Nat.{◌+◌, ◌*◌}
use Rattle.planes.proofs.RegionLaws.{outside_none, outside_then, outside_split}
use Rattle.reciprocal_to_normal.specs.Slots.{bands_of}
use Rattle.reciprocal_to_normal.proofs.SlotLaws.{visited_ext}
use Rattle.reciprocal_to_normal.proofs.FlagLaws.{column_passed}
use Rattle.reciprocal_to_normal.proofs.AmplitudeLaws.{pair_is, sparse_is}
use native.Mathlib.Omega.{arith}
use Rattle.reciprocal_to_normal.proofs.slots.fill_pair.Goals as goal

pub returns-then-all_flagged : goal.returns-then-all_flagged
returns-then-all_flagged c =
    let a = c.args in
    (column_passed _ _ _ (bands_of a.p.now) a.b a.k _ (sym c.all_flagged.ensures ∙ c.if-all_flagged.true), outside_none _ _ _)

pub returns-then-mostly_flagged : goal.returns-then-mostly_flagged
returns-then-mostly_flagged c =
    let a = c.args in
    let p = a.p.now in
    let w = c.contract_leg2.ensures in
    (visited_ext c.fill_sparse_column.ensures (λ n q d. sparse_is p a.k w a.b n d), outside_split p.row (p.row + 4 * bands_of p) (omega arith) (omega arith) refl w)

pub returns : goal.returns
returns c =
    let a = c.args in
    let p = a.p.now in
    let w = c.contract_leg2.ensures in
    let v = c.contract_leg1.ensures in
    let end = p.row + 4 * bands_of p in (
      visited_ext c.fill_column.ensures (λ n q d. pair_is p a.k w (p.row + 2 * bands_of p) v a.b n d),
      outside_then (outside_split p.row end (omega arith) (omega arith) refl w) (outside_split p.row end (omega arith) (omega arith) refl v),
    )
