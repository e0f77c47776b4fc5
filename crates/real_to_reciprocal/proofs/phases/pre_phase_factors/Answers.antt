-- The pre-factors: after i turns those of i atoms.
use Prim.Native.Nat.{◌<◌}
use lib.ListN.{length}
use Rattle.phonon.proofs.Accepted.{index_below}
use Rattle.real_to_reciprocal.proofs.PhaseLaws.{anchor_in}
use native.Mathlib.Omega.{arith}
use Rattle.real_to_reciprocal.proofs.phases.pre_phase_factors.Goals as goal

pub get_pre_phase_factor-requires : goal.get_pre_phase_factor-requires
get_pre_phase_factor-requires c =
    let a = c.requires.1 in
    let l : c.loop-i.i < length c.args.crystal.now.forces.p2s.now = omega (arith, a.atoms) in
    let e = anchor_in c.args.np c.args.crystal.now.vectors.now c.args.crystal.now.multiplicity.now c.args.crystal.now.forces.p2s.now c.loop-i.i a.ranged (omega arith) (index_below _ _ a.some a.anchors _ l) in
    (l, e.0, e.1)
