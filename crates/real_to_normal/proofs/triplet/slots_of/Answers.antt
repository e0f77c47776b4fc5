-- Either way of working leaves the slots that the definition names.
use Rattle.phonon.specs.Handed.{tables_of}
use Rattle.real_to_normal.proofs.PlaceLaws.{outside_legs}
use Rattle.real_to_normal.proofs.TripletLaws.{off_values, six_values}
use Rattle.real_to_normal.proofs.triplet.slots_of.Goals as goal

pub returns-in-Off : goal.returns-in-Off
returns-in-Off c =
    let prep = c.prepare.ensures in
    let a = c.args in
    let t = tables_of a.p.now.tables.now in
    let p = c.requires in
    let r = c.real_to_normal.ensures in
    (off_values t a.p.now.g a.p.now.q prep.0 a.flags.now a.strengths.now p.sizes.0 p.slots.bands t.symmetry c.in-Off.is r.0, outside_legs t.measures.atoms t.measures.supercell prep.1 r.1)

pub returns-in-Symmetrized : goal.returns-in-Symmetrized
returns-in-Symmetrized c =
    let prep = c.prepare.ensures in
    let a = c.args in
    let t = tables_of a.p.now.tables.now in
    let p = c.requires in
    let r = c.real_to_normal_sym_q.ensures in
    (six_values t a.p.now.g a.p.now.q prep.0 a.flags.now a.strengths.now p.sizes.0 p.slots.bands t.symmetry c.in-Symmetrized.is r.0, outside_legs t.measures.atoms t.measures.supercell prep.1 r.1)
