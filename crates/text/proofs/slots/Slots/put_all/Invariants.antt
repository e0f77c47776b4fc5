-- The planes of each b in turn.
use Rattle.std.proofs.Common.{◌≡◌, ◌++◌}
use Rattle.text.specs.Lines.{lines_below, first_band_lines}
use Rattle.text.proofs.slots.Slots.put_all.Given as goal

abbrev pub invariant-loop-b : goal.invariant-loop-b
invariant-loop-b g l = l.text.items ≡ l.initial.text.items ++ lines_below l.b (λ x. first_band_lines l.self.bands l.self.flags.now l.self.strengths.now x)
