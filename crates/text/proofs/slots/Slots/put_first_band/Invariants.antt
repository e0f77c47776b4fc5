-- The columns of each k in turn.
use Rattle.std.proofs.Common.{◌≡◌, ◌++◌}
use Rattle.text.specs.Lines.{lines_below, column_lines}
use Rattle.text.proofs.slots.Slots.put_first_band.Given as goal

abbrev pub invariant-loop-k : goal.invariant-loop-k
invariant-loop-k g l = l.text.items ≡ l.initial.text.items ++ lines_below l.k (λ x. column_lines l.self.bands l.self.flags.now l.self.strengths.now l.b x)
