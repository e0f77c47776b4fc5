-- The door's outcome, of cell U with the case's change.
use Rattle.phonon.specs.KeyCases.{cell_u}
use Rattle.key_cases.specs.Cells.{cell_of, bath_of, totals_of}
use Rattle.key_cases.proofs.run_totals.Goals as goal

pub returns : goal.returns
unfolding totals_of bath_of cell_of cell_u
returns c = rw (c.bath_of.ensures) at c.imag_self_energy_at_triplet.ensures
