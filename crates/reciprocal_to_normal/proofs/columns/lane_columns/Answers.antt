-- After i turns, partial sums of i terms.
use mathlib.Core.Path.{◌≡◌, refl}
use Prim.Native.Nat.{◌+◌, ◌*◌, ◌/◌, ◌<◌}
use Rattle.phonon.specs.Number.{fold}
use Rattle.phonon.specs.Common.{czero}
use Rattle.planes.proofs.SplitLaws.{split_at}
use Rattle.planes.proofs.Products.{row_le}
use Rattle.reciprocal_to_normal.specs.Places.{number_in, column_of}
use Rattle.reciprocal_to_normal.proofs.ColumnLaws.{summed_ext, lane_place}
use Rattle.reciprocal_to_normal.proofs.DotLaws.{turn, lane_done}
use native.Mathlib.Omega.{arith}
use Rattle.reciprocal_to_normal.proofs.columns.lane_columns.Goals as goal

pub loop-i-init : goal.loop-i-init
unfolding fold
loop-i-init g c = (omega arith, summed_ext c.none-t.ensures (λ q h. refl))

pub get-requires : goal.get-requires
get-requires g c =
    let a = c.args in
    let h : 4 * c.loop-i.i + a.p < a.n = omega arith in
    omega (arith, row_le a.v.step h)

pub add_row-requires : goal.add_row-requires
add_row-requires g c =
    let a = c.args in
    let h : 4 * c.loop-i.i + a.p < a.n = omega arith in
    omega (arith, lane_place c.loop-i.i a.p a.n, row_le a.n h)

pub loop-i-preserved : goal.loop-i-preserved
loop-i-preserved g c =
    let a = c.args in
    let i = c.loop-i.i in
    let k = 4 * i + a.p in (
      omega arith,
      summed_ext c.add_row.ensures
          (λ q h. turn (column_of a.w.now a.m a.n (a.j + q)) (number_in a.w.now a.v) czero (λ s. 4 * s + a.p) i (c.loop-i.invariant.1.sum q h)
          (split_at a.w.now (a.m.at + (a.p * a.n + a.j) + i * (4 * a.n)) a.m.at a.m.apart q (k * a.n + (a.j + q)) (omega (arith, lane_place i a.p a.n))) c.get.ensures),
    )

pub returns : goal.returns
returns g c =
    let a = c.args in
    let e : c.loop-i.i ≡ a.n / 4 = omega arith in
    summed_ext (rw e at c.loop-i.invariant.1) (λ q h. lane_done (column_of a.w.now a.m a.n (a.j + q)) (number_in a.w.now a.v) a.n a.p)
