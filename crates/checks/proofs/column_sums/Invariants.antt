-- After each row, and after t entries of a row, the sums tell of what they have added.
use Rattle.checks.proofs.Laws.{Told}
use Rattle.checks.proofs.column_sums.Given as goal

abbrev pub invariant-loop-t : goal.invariant-loop-t
invariant-loop-t g l = Told l.rows g.row.N l.row-index l.t l.sums

abbrev pub invariant-loop-row : goal.invariant-loop-row
invariant-loop-row g l = Told l.rows g.row.N l.row-index 0 l.sums
