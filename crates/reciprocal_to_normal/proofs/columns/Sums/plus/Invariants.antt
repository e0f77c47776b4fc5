-- The sums below c are added.
use Prim.Native.Nat.{◌≤◌}
use Rattle.phonon.specs.Common.{cadd}
use Rattle.reciprocal_to_normal.specs.Columns.{sum_at}
use Rattle.reciprocal_to_normal.proofs.ColumnLaws.{Begun}
use Rattle.reciprocal_to_normal.proofs.columns.Sums.plus.Given as goal

abbrev pub invariant-loop-c : goal.invariant-loop-c
invariant-loop-c g l = (l.c ≤ g.row.N) × Begun l.initial.t l.t l.c (λ k. cadd (sum_at l.self k) (sum_at l.other k))
