-- The first numbers are worked, two in a turn.
use Prim.Native.Nat.{◌*◌}
use Rattle.phonon.specs.Number.{at}
use Rattle.phonon.specs.Exp as Exp
use Rattle.funcs.proofs.Changed.{Changed}
use Rattle.funcs.proofs.exps.Given as goal

abbrev pub invariant-loop-i : goal.invariant-loop-i
invariant-loop-i g l = Changed (λ j. Exp.exp (at l.x j)) (2 * l.i) l.x l.e
