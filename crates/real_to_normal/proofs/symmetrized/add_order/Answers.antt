-- The full listing of one order, and a sixth of it gathered into the slots.
use mathlib.Core.Path.{refl}
use Rattle.phonon.specs.Handed.{tables_of}
use Rattle.reciprocal_to_normal.proofs.ListingLaws.{outside_above}
use Rattle.real_to_normal.specs.Work.{constants_at, scratch_at, listing_at}
use Rattle.real_to_normal.proofs.PlaceLaws.{columns_pre, outside_listing}
use Rattle.real_to_normal.proofs.SlotLaws.{order_gathered}
use Rattle.real_to_normal.proofs.symmetrized.add_order.Goals as goal

pub returns : goal.returns
returns c =
    let a = c.args in
    let p = a.p.now in
    let t = tables_of p.tables.now in
    let m = t.measures in
    let o = c.order_constants.ensures in
    let e = c.operands_of-o.ensures in
    let l = c.of.ensures.5 in
    let s = rw (e.atoms, e.constants, e.scratch, e.cutoff, l) at c.full_strengths.ensures in
    let r = rw (e.atoms, l) at c.gather_sixth.ensures in (
      order_gathered m.atoms m.supercell t.phonons.frequencies p.g o.1 (columns_pre m.atoms m.supercell) a.order t.bands a.flags.now a.out.now _ t.settings.cutoff (constants_at m.atoms m.supercell)
          (scratch_at m.atoms m.supercell) (listing_at m.atoms m.supercell) c.requires.sizes.0 c.requires.slots.bands o.0 c.requires.legs refl e.legs refl e.freqs0 e.freqs1 e.freqs2 s r,
      outside_listing m.atoms m.supercell o.1 (outside_above s),
    )
