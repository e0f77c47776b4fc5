-- Inverse roots, columns and factors stand side by side, and no later one touches an earlier.
use Prim.Native.Nat.{◌≤◌}
use lib.ListN.{length}
use Rattle.phonon.specs.Handed.{tables_of}
use Rattle.real_to_normal.proofs.LegLaws.{legs_factored, factored_outside, prepared, prepared_outside}
use native.Mathlib.Omega.{arith}
use Rattle.real_to_normal.proofs.legs.prepare.Goals as goal

pub returns : goal.returns
returns c =
    let a = c.args in
    let t = tables_of a.p.now.tables.now in
    let room : a.p.now.tables.now.measures.atoms ≤ length a.w.now = omega (arith, c.requires.sizes) in
    let r = c.inverse_roots.ensures in
    let s = c.scale_legs.ensures in
    let k = rw c.of-at.ensures.1 at c.phase_factors.ensures in
    let f = legs_factored a.p.now.tables.now.measures.atoms a.p.now.tables.now.measures.supercell t.crystal.vectors t.crystal.multiplicity a.p.now.q k in
    let o = factored_outside a.p.now.tables.now.measures.atoms a.p.now.tables.now.measures.supercell t.crystal.vectors t.crystal.multiplicity a.p.now.q k in (
      prepared t a.p.now.g a.p.now.q room r s.0 s.1 f o,
      prepared_outside t a.p.now.g a.p.now.q room r s.0 s.1 f o,
    )
