-- After the join, r turns add r terms of the remainder.
use mathlib.Core.Path.{◌≡◌, ap₂, ◌∙◌}
use Prim.Native.Nat.{◌+◌, ◌*◌, ◌/◌, ◌%◌}
use Rattle.phonon.specs.Number.{fold}
use Rattle.phonon.specs.Common.{cadd}
use Rattle.planes.proofs.SplitLaws.{split_at}
use Rattle.reciprocal_to_normal.specs.Places.{number_in, column_of}
use Rattle.reciprocal_to_normal.proofs.ColumnLaws.{summed_ext}
use Rattle.reciprocal_to_normal.proofs.DotLaws.{turn, dot_done}
use native.Mathlib.Omega.{arith}
use Rattle.reciprocal_to_normal.proofs.columns.dot_columns.Goals as goal

pub loop-r-init : goal.loop-r-init
unfolding fold
loop-r-init g c = (
  omega arith,
  summed_ext c.plus-t.ensures (λ q h. ap₂ cadd
      (c.plus-x.ensures.sum q h ∙ ap₂ cadd (c.lane_columns-s0.ensures.sum q h) (c.lane_columns-s1.ensures.sum q h))
      (c.plus-y.ensures.sum q h ∙ ap₂ cadd (c.lane_columns-s2.ensures.sum q h) (c.lane_columns-s3.ensures.sum q h))),
)

pub loop-r-preserved : goal.loop-r-preserved
loop-r-preserved g c =
    let a = c.args in
    let r = c.loop-r.r in
    let k = 4 * (a.n / 4) + r in (
      omega arith,
      summed_ext c.add_row.ensures
          (λ q h. turn (column_of a.w.now a.m a.n (a.j + q)) (number_in a.w.now a.v) _ (λ s. 4 * (a.n / 4) + s) r (c.loop-r.invariant.1.sum q h)
          (split_at a.w.now (a.m.at + (k * a.n + a.j)) a.m.at a.m.apart q (k * a.n + (a.j + q)) (omega arith)) c.get.ensures),
    )

pub returns : goal.returns
returns g c =
    let a = c.args in
    let e : c.loop-r.r ≡ a.n % 4 = omega arith in
    summed_ext (rw e at c.loop-r.invariant.1) (λ q h. dot_done (column_of a.w.now a.m a.n (a.j + q)) (number_in a.w.now a.v) a.n)
