-- The sums below c are added.
use mathlib.Core.Path.{refl}
use Rattle.phonon.specs.Common.{cadd}
use Rattle.reciprocal_to_normal.proofs.ColumnLaws.{begun_step}
use native.Mathlib.Omega.{arith}
use Rattle.reciprocal_to_normal.proofs.columns.Sums.plus.Goals as goal

pub loop-c-preserved : goal.loop-c-preserved
unfolding cadd
loop-c-preserved g c = (omega arith, begun_step c.loop-c.invariant.1 c.loop-c-test.true refl refl)
