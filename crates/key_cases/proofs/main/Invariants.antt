-- No more cases pass than are run.
use Rattle.std.proofs.Common.{◌<◌}
use Rattle.key_cases.proofs.main.Given as goal

abbrev pub invariant-loop-n : goal.invariant-loop-n
invariant-loop-n l = l.passed < l.n
