-- All blocks: each loop has stored the box of what it came past, in terms of the factors as they were when it began, which lie below the region.
use mathlib.Core.Path.{◌≡◌}
use Rattle.real_to_reciprocal.proofs.ReciprocalLaws.{turn_k, turn_j, turn_i, all_stored}
use native.Mathlib.Omega.{arith}
use Rattle.real_to_reciprocal.proofs.real_to_reciprocal.Goals as goal

pub loop-k-preserved : goal.loop-k-preserved
loop-k-preserved c =
    let pk = c.loop-k-test.true in (
      omega (arith, pk),
      turn_k _ _ _ _ c.requires.3 _ _ c.loop-i.i c.loop-j.j c.loop-k.k c.loop-i-test.true c.loop-j-test.true pk c.loop-k.invariant.1 c.block.ensures c.store_block.ensures,
    )

pub loop-j-preserved : goal.loop-j-preserved
loop-j-preserved c =
    let pj = c.loop-j-test.true in
    let e : c.loop-k.k ≡ c.args.np = omega (arith, c.loop-k.invariant.0, c.loop-k-test.false) in
    (omega (arith, pj), turn_j _ _ _ _ c.requires.3 _ _ c.loop-i.i c.loop-j.j c.loop-i-test.true pj c.loop-j.invariant.1 (rw e at c.loop-k.invariant.1))

pub loop-i-preserved : goal.loop-i-preserved
loop-i-preserved c =
    let pi = c.loop-i-test.true in
    let e : c.loop-j.j ≡ c.args.np = omega (arith, c.loop-j.invariant.0, c.loop-j-test.false) in
    (omega (arith, pi), turn_i _ _ _ _ c.requires.3 _ _ c.loop-i.i pi c.loop-i.invariant.1 (rw e at c.loop-j.invariant.1))

pub returns : goal.returns
returns c =
    let e : c.loop-i.i ≡ c.args.np = omega (arith, c.loop-i.invariant.0, c.loop-i-test.false) in
    (all_stored _ _ _ _ c.requires.3 _ _ (rw e at c.loop-i.invariant.1), c.loop-i.invariant.1.kept)
