-- The phase at the sum of the three q: after j turns the sum over j components.
use mathlib.Core.Path.{◌≡◌}
use Prim.Native.Nat.{◌≤◌}
use Rattle.real_to_reciprocal.proofs.PhaseLaws.{pre_sum}
use Rattle.real_to_reciprocal.proofs.phases.pre_phase.Given as goal

abbrev pub invariant-loop-j : goal.invariant-loop-j
invariant-loop-j l = (l.j ≤ 3) × (l.sum ≡ pre_sum l.vectors l.q l.v l.j)
