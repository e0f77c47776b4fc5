-- After i turns both lists have what is unflagged of the first i pairs.
use native.Mathlib.Omega.{arith}
use lib.ListN.{length-set}
use Rattle.imag_self_energy.proofs.ListLaws.{gain_most, unflagged_turn}
use Rattle.imag_self_energy.proofs.listed.list_unflagged.Goals as goal

pub loop-x-preserved : goal.loop-x-preserved
loop-x-preserved c =
    let l = c.loop-x in
    let w = c.from-o.ensures in
    let p = c.requires.2.below l.x-index c.loop-x-test.true in
    let one = gain_most _ c.from-m.ensures in
    let two = gain_most _ c.from-l.ensures in (
      omega arith,
      omega (arith, one),
      omega (arith, two),
      simp length-set l.invariant.3,
      simp length-set l.invariant.4,
      unflagged_turn _ c.args.c c.args.flags.now c.args.pairs.now l.x-index (rw w at c.from-m.ensures) l.invariant.5 (omega arith) p,
      unflagged_turn _ c.args.d c.args.flags.now c.args.pairs.now l.x-index (rw w at c.from-l.ensures) l.invariant.6 (omega arith) p,
    )
