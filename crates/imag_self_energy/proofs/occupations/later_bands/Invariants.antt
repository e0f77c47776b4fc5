-- After j turns the first j bands of both later legs are held.
use Rattle.std.proofs.Common.{◌≤◌, length}
use Rattle.imag_self_energy.proofs.Laws.{BothHeld}
use Rattle.imag_self_energy.proofs.occupations.later_bands.Given as goal

abbrev pub invariant-loop-j : goal.invariant-loop-j
invariant-loop-j l = (l.j ≤ length l.leg1) × BothHeld l.h l.leg1 l.leg2 (length l.leg1) l.j l.seconds l.thirds
