-- After t turns, t numbers are written.
use Rattle.phonon.specs.Common.{cat}
use Rattle.planes.proofs.SplitLaws.{split_step}
use native.Mathlib.Omega.{arith}
use Rattle.reciprocal_to_normal.proofs.scale.scale_run.Goals as goal

pub loop-t-preserved : goal.loop-t-preserved
unfolding cat
loop-t-preserved c = (omega arith, split_step _ c.loop-t.invariant.1 (omega arith) (omega arith) c.put_split.ensures c.cmplx_scale.ensures)
