-- Each arm's case is computed, M5's by hand: so a wrong sixth is refused at its bits.
use Rattle.std.proofs.Common.{refl, rules}
use Rattle.phonon.proofs.Evaluate.{evaluate}
use Rattle.key_cases.specs.Cells.{key_case_of, cell_of, outcome_of, joined_number}
use Rattle.key_cases.proofs.case_of.Goals as goal

pub returns-in-5 : goal.returns-in-5
unfolding key_case_of cell_of outcome_of joined_number evaluate
returns-in-5 c = (search rules, rw c.in-5.is refl)
