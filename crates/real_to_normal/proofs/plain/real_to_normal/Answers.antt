-- The order 0, 1, 2, and the slots from the columns that were prepared.
use Rattle.phonon.specs.Handed.{tables_of}
use Rattle.real_to_normal.specs.Work.{constants_at}
use Rattle.real_to_normal.proofs.PlaceLaws.{columns_pre, outside_scratch}
use Rattle.real_to_normal.proofs.SlotLaws.{plain_is}
use Rattle.real_to_normal.proofs.plain.real_to_normal.Goals as goal

pub returns : goal.returns
returns c =
    let a = c.args in
    let p = a.p.now in
    let t = tables_of p.tables.now in
    let m = t.measures in
    let o = c.order_constants.ensures in
    let e = c.operands_of-o.ensures in
    let r = rw (e.atoms, e.constants, e.scratch, e.cutoff) at c.reciprocal_to_normal_squared.ensures in (
      plain_is m.atoms m.supercell t.phonons.frequencies p.g o.1 (columns_pre m.atoms m.supercell) t.bands a.flags.now a.out.now _ t.settings.cutoff (constants_at m.atoms m.supercell) c.requires.sizes.0
          c.requires.slots.bands o.0 e.legs e.freqs0 e.freqs1 e.freqs2 r.0,
      outside_scratch m.atoms m.supercell o.1 r.1,
    )
