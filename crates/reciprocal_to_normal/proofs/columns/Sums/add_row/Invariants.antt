-- The sums below c have one term more.
use Prim.Native.Nat.{◌≤◌}
use Rattle.phonon.specs.Common.{cadd, cmul}
use Rattle.planes.specs.Split.{split}
use Rattle.reciprocal_to_normal.specs.Columns.{sum_at}
use Rattle.reciprocal_to_normal.proofs.ColumnLaws.{Begun}
use Rattle.reciprocal_to_normal.proofs.columns.Sums.add_row.Given as goal

abbrev pub invariant-loop-c : goal.invariant-loop-c
invariant-loop-c g l = (l.c ≤ g.row.N) × Begun l.initial.self l.self l.c (λ k. cadd (sum_at l.initial.self k) (cmul (split l.w l.from l.apart k) l.v))
