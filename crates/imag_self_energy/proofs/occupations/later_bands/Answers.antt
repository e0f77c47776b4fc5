-- After j turns the first j bands of both later legs are held.
use mathlib.Core.Path.{◌≡◌, refl}
use native.Mathlib.Omega.{arith}
use lib.ListN.{length}
use Rattle.imag_self_energy.proofs.Laws.{both_step, both_whole}
use Rattle.imag_self_energy.proofs.occupations.later_bands.Goals as goal

pub loop-j-preserved : goal.loop-j-preserved
loop-j-preserved c =
    let e = c.occupations.ensures in
    (omega arith, both_step c.loop-j.invariant.1 c.loop-j-test.true (rw e refl) (rw e refl))

pub returns : goal.returns
returns c =
    let l = c.loop-j in
    let all : l.j ≡ length c.args.leg1.now = omega arith in
    let e = both_whole c.requires.1 (rw all at l.invariant.1) in
    (e.0, e.1, l.invariant.1.room2)
