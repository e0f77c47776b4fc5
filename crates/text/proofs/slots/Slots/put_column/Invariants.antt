-- The slots of each j in turn.
use Rattle.std.proofs.Common.{◌≡◌, ◌++◌}
use Rattle.text.specs.Lines.{lines_below, slot_lines}
use Rattle.text.proofs.slots.Slots.put_column.Given as goal

abbrev pub invariant-loop-j : goal.invariant-loop-j
invariant-loop-j g l = l.text.items ≡ l.initial.text.items ++ lines_below l.j (λ x. slot_lines l.self.bands l.self.flags.now l.self.strengths.now l.b x l.k)
