-- The door's outcome, of cell U with the case's change.
use Rattle.phonon.specs.KeyCases.{cell_u}
use Rattle.key_cases.specs.Cells.{cell_of, tables_of, triplet_of}
use Rattle.key_cases.proofs.run_triplet.Goals as goal

pub returns : goal.returns
unfolding triplet_of tables_of cell_of cell_u
returns c = rw (c.tables.ensures) at c.get_interaction_at_triplet.ensures
