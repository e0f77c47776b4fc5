-- After j rows, and k pairs of row j, the table has their factors.
use Prim.Native.Nat.{◌+◌, ◌≤◌}
use mathlib.Core.Path.{◌≡◌, refl, ◌∙◌}
use native.Mathlib.Omega.{arith}
use lib.ListN.{length, length-set}
use Rattle.imag_self_energy.proofs.ListLaws.{cells_step, cells_next, Room, room_of}
use Rattle.imag_self_energy.proofs.listed.fill_factors.Goals as goal
use Rattle.imag_self_energy.proofs.listed.fill_factors.Goals.{In-loop-k}

-- pair (j, k) lies below n * n
room : (c : In-loop-k) → Room (length c.args.later.now.seconds.now) c.loop-j.j c.loop-k.k
room c = room_of c.args.later.now.few c.loop-j-test.true (omega (arith, c.args.later.now.alike))

pub loop-k-preserved : goal.loop-k-preserved
loop-k-preserved c =
    let l = c.loop-k in
    let r = room (goal.at.loop-k-preserved c).In-loop-k in
    let k : l.k + 1 ≤ length c.args.later.now.seconds.now = omega (arith, c.args.later.now.alike) in
    (k, simp length-set l.invariant.1, cells_step _ l.invariant.2 (omega (arith, k)) (omega (arith, r)) refl)

pub loop-j-preserved : goal.loop-j-preserved
loop-j-preserved c =
    let l = c.loop-k in
    let o = c.loop-j.invariant in
    let all : l.k ≡ length c.args.later.now.seconds.now = omega (arith, c.args.later.now.alike) in
    (omega arith, l.invariant.1 ∙ o.1, cells_next l.invariant.2 all)
