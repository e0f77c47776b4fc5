-- After k columns, and j pairs of column k, the list has those that both exceed the cutoff.
use mathlib.Core.Path.{◌≡◌, sym, ◌∙◌}
use native.Mathlib.Omega.{arith}
use native.Mathlib.Nat.{add-mul, one-mul}
use lib.ListN.{length, length-set}
use Rattle.phonon.proofs.Laws.{fold_step}
use Rattle.imag_self_energy.specs.Lists.{pair_column, pair_walk}
use Rattle.imag_self_energy.proofs.ListLaws.{listed_same, gain_most, pair_turn, Room, room_of}
use Rattle.imag_self_energy.proofs.listed.list_pairs.Goals as goal
use Rattle.imag_self_energy.proofs.listed.list_pairs.Goals.{In-loop-j}

-- pair (j, k) and what is listed before it lie below n * n
room : (c : In-loop-j) → Room (length c.args.later.now.seconds.now) c.loop-j.j c.loop-k.k
room c = room_of c.args.later.now.few (omega (arith, c.args.later.now.alike)) (omega (arith, c.args.later.now.alike))

pub loop-j-preserved : goal.loop-j-preserved
loop-j-preserved c =
    let l = c.loop-j in
    let r = room (goal.at.loop-j-preserved c).In-loop-j in
    let e = gain_most _ c.from-m.ensures in (
      omega arith,
      omega (arith, e),
      simp length-set l.invariant.2,
      pair_turn _ _ _ _ _ _ l.j c.from-m.ensures l.invariant.3 (omega (arith, r)) r.inside,
    )

pub loop-k-preserved : goal.loop-k-preserved
unfolding pair_column
loop-k-preserved c =
    let l = c.loop-j in
    let k = c.loop-k.k in
    let n = length c.args.later.now.seconds.now in
    let all : l.j ≡ n = omega (arith, c.args.later.now.alike) in (
      omega (arith, c.args.later.now.alike),
      omega (arith, add-mul k 1 n, one-mul n),
      l.invariant.2 ∙ c.loop-k.invariant.2,
      listed_same (λ z g. sym (fold_step k z _)) (rw all at l.invariant.3),
    )

pub returns : goal.returns
unfolding pair_walk
returns c =
    let l = c.loop-k in
    let all : l.k ≡ length c.args.later.now.seconds.now = omega (arith, c.args.later.now.alike) in
    (rw all at l.invariant.1, rw all at l.invariant.3)
