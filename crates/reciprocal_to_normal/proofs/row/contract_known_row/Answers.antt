-- All sums are written.
use mathlib.Core.Path.{ap, ◌∙◌}
use Rattle.planes.proofs.SplitLaws.{split_ext}
use Rattle.reciprocal_to_normal.specs.Places.{column_dot}
use native.Mathlib.Omega.{arith}
use Rattle.reciprocal_to_normal.proofs.row.contract_known_row.Goals as goal

pub returns : goal.returns
returns g c =
    let a = c.args in
    split_ext c.put.ensures (λ k h. c.dot_columns-t.ensures.sum k h ∙ ap (column_dot a.w.now a.m a.v g.row.N) (omega arith))
