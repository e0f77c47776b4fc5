-- After the join, r turns add r terms of the remainder.
use Prim.Native.Nat.{◌+◌, ◌%◌, ◌≤◌}
use Rattle.reciprocal_to_normal.specs.Places.{number_in, column_of}
use Rattle.reciprocal_to_normal.specs.Columns.{Summed}
use Rattle.reciprocal_to_normal.proofs.DotLaws.{rest_to}
use Rattle.reciprocal_to_normal.proofs.columns.dot_columns.Given as goal

abbrev pub invariant-loop-r : goal.invariant-loop-r
invariant-loop-r g l = (l.r ≤ l.n % 4) × Summed l.t (λ c. rest_to l.r l.n (column_of l.w l.m l.n (l.j + c)) (number_in l.w l.v))
