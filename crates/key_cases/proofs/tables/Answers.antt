-- Cell U's tables, with the entries that the case may change.
use Rattle.std.proofs.Common.{refl}
use Rattle.phonon.specs.KeyCases.{cell_u}
use Rattle.key_cases.specs.Cells.{cell_of, tables_of}
use Rattle.key_cases.proofs.tables.Goals as goal

pub returns : goal.returns
unfolding tables_of cell_of cell_u
returns c =
    let e = c.requires in
    rw (e.multiplicity, e.shortest, e.nonzero, e.constants) refl
