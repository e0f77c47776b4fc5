-- The mean of three numbers of three legs: those below n are written.
use Rattle.phonon.specs.Common.{czero, cadd}
use Rattle.phonon.specs.RealToReciprocal.{over3}
use Prim.Native.Nat.{◌+◌, ◌*◌, ◌≤◌}
use Rattle.planes.specs.Split.{split, WroteSplit}
use Rattle.real_to_reciprocal.proofs.blocks.average_run.Given as goal

abbrev pub invariant-loop-n : goal.invariant-loop-n
invariant-loop-n l = (l.n ≤ 3) × WroteSplit l.initial.t l.t l.e 27 l.n (λ m. over3 (cadd (cadd (cadd czero (split l.initial.t 0 27 (l.e + m))) (split l.second 0 27 (l.f + m))) (split l.third 0 27 (l.g + 9 * m))))
