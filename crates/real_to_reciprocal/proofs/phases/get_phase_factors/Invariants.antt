-- The means over the vectors of a range: before vector v the sums over those from `start` on.
use mathlib.Core.Path.{◌≡◌}
use Prim.Native.Nat.{◌+◌, ◌-◌, ◌≤◌}
use Rattle.real_to_reciprocal.proofs.PhaseLaws.{phase_sum}
use Rattle.real_to_reciprocal.proofs.phases.get_phase_factors.Given as goal

abbrev pub invariant-loop-v : goal.invariant-loop-v
invariant-loop-v l = (l.start ≤ l.v) × (l.v ≤ l.start + l.count) × (l.sum.leg0 ≡ phase_sum l.q.leg0 l.vectors l.start (l.v - l.start)) × (l.sum.leg1 ≡ phase_sum l.q.leg1 l.vectors l.start (l.v - l.start)) × (l.sum.leg2 ≡ phase_sum l.q.leg2 l.vectors l.start (l.v - l.start))
