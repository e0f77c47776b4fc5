-- The door's outcome, of cell U with the case's change.
use Rattle.phonon.specs.KeyCases.{cell_u}
use Rattle.key_cases.specs.Cells.{cell_of, tables_of, list_of}
use Rattle.key_cases.proofs.run_list.Goals as goal

pub returns : goal.returns
unfolding list_of tables_of cell_of cell_u
returns c = rw (c.tables.ensures) at c.get_interaction.ensures
