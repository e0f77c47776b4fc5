-- After a turns, a numbers are written.
use mathlib.Core.Path.{ap}
use Rattle.phonon.specs.Number.{◌⊘◌, f1}
use Rattle.phonon.specs.ReciprocalToNormal.{inverse_root}
use Rattle.planes.proofs.RegionLaws.{wrote_step}
use native.Mathlib.Omega.{arith}
use Rattle.reciprocal_to_normal.proofs.scale.inverse_roots.Goals as goal

pub loop-a-preserved : goal.loop-a-preserved
unfolding inverse_root
loop-a-preserved c = (omega arith, wrote_step _ c.loop-a.invariant.1 (omega arith) (ap (λ x. f1 ⊘ x) c.root.ensures))
