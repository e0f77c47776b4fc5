-- After a turns, the runs of a atoms are written; then each column is the definition's.
use mathlib.Core.Path.{◌≡◌, refl}
use Prim.Native.Nat.{◌+◌, ◌*◌}
use Rattle.planes.proofs.RegionLaws.{split_to, outside_split}
use Rattle.reciprocal_to_normal.proofs.ScaleLaws.{runs_all, scaled_turn, scaled_column}
use native.Mathlib.Omega.{arith}
use Rattle.reciprocal_to_normal.proofs.scale.scale_eigenvectors.Goals as goal

pub loop-a-preserved : goal.loop-a-preserved
loop-a-preserved c =
    let t = c.args in
    (omega arith, scaled_turn t.eigenvectors.now t.w.now t.io t.np t.g t.eo c.requires.1 c.loop-a.a c.loop-a-test.true c.loop-a.invariant.1 c.scale_run.ensures)

pub returns : goal.returns
returns c =
    let t = c.args in
    let e : c.loop-a.a ≡ t.np = omega arith in
    let w = split_to (t.np * (3 * (3 * t.np))) (3 * t.np * (3 * t.np)) (runs_all t.np) (rw e at c.loop-a.invariant.1) in
    (scaled_column t.eigenvectors.now t.w.now t.io t.np t.g t.eo c.requires.1 w, outside_split t.eo (t.eo + 2 * (3 * t.np * (3 * t.np))) (omega arith) (omega arith) refl w)
