-- The case's own.
use Rattle.std.proofs.Common.{refl}
use Rattle.phonon.specs.KeyCases.{cell_u}
use Rattle.key_cases.specs.Cells.{cell_of, bath_of}
use Rattle.key_cases.proofs.bath_of.Goals as goal

pub returns : goal.returns
unfolding bath_of cell_of cell_u
returns c = refl
