-- The totals of each b in turn.
use Rattle.std.proofs.Common.{◌≡◌, ◌++◌}
use Rattle.phonon.specs.Number.{at}
use Rattle.text.specs.Lines.{lines_below, total_line}
use Rattle.text.proofs.lines.put_totals.Given as goal

abbrev pub invariant-loop-b : goal.invariant-loop-b
invariant-loop-b g l = l.text.items ≡ l.initial.text.items ++ lines_below l.b (λ k. total_line k (at l.totals k))
