-- The door's outcome, of cell U with the case's change.
use Rattle.phonon.specs.KeyCases.{cell_u}
use Rattle.key_cases.specs.Cells.{cell_of, tables_of, bath_of, joined_of}
use Rattle.key_cases.proofs.run_joined.Goals as goal

pub returns : goal.returns
unfolding joined_of tables_of bath_of cell_of cell_u
returns c = rw (c.tables.ensures, c.bath_of.ensures) at c.joined_at_triplet.ensures
