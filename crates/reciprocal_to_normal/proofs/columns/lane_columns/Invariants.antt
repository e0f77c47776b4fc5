-- After i turns, partial sums of i terms.
use Prim.Native.Nat.{◌+◌, ◌/◌, ◌≤◌}
use Rattle.reciprocal_to_normal.specs.Places.{number_in, column_of}
use Rattle.reciprocal_to_normal.specs.Columns.{Summed}
use Rattle.reciprocal_to_normal.proofs.DotLaws.{lane_to}
use Rattle.reciprocal_to_normal.proofs.columns.lane_columns.Given as goal

abbrev pub invariant-loop-i : goal.invariant-loop-i
invariant-loop-i g l = (l.i ≤ l.n / 4) × Summed l.t (λ c. lane_to l.i (column_of l.w l.m l.n (l.j + c)) (number_in l.w l.v) l.p)
