-- The phase at the sum of the three q: after j turns the sum over j components.
use mathlib.Core.Path.{◌≡◌}
use Rattle.real_to_reciprocal.proofs.PhaseLaws.{pre_none, pre_turn, pre_of}
use native.Mathlib.Omega.{arith}
use Rattle.real_to_reciprocal.proofs.phases.pre_phase.Goals as goal

pub loop-j-init : goal.loop-j-init
loop-j-init c = (omega arith, pre_none c.args.vectors.now c.args.q.now c.args.v)

pub loop-j-preserved : goal.loop-j-preserved
loop-j-preserved c = (omega arith, pre_turn c.args.vectors.now c.args.q.now c.args.v c.loop-j.j c.loop-j.invariant.1)

pub returns : goal.returns
returns c =
    let e : c.loop-j.j ≡ 3 = omega arith in
    pre_of c.args.vectors.now c.args.q.now c.args.v (rw e at c.loop-j.invariant.1)
