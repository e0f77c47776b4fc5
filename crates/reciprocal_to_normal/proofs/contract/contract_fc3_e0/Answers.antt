-- After al turns each number of the planes is `contracted` at al.
use native.Mathlib.Omega.{arith}
use mathlib.Core.Path.{◌≡◌, ◌∙◌}
use Prim.Native.Nat.{◌+◌, ◌*◌}
use Rattle.planes.proofs.SplitLaws.{split_same, split_ext, split_over, split_below}
use Rattle.planes.proofs.Products.{row_le}
use Rattle.reciprocal_to_normal.proofs.ContractLaws.{contracted_none, contracted_turn, contracted_ext}
use Rattle.reciprocal_to_normal.proofs.contract.contract_fc3_e0.Goals as goal

pub loop-al-init : goal.loop-al-init
loop-al-init c = (omega arith, split_same (λ x h. c.clear_planes.ensures.inside x h ∙ contracted_none _ _))

pub loop-al-preserved : goal.loop-al-preserved
loop-al-preserved c =
    let args = c.args in
    let nb = args.nb in
    let al = c.loop-al.al in
    let more = c.loop-al-test.true in
    let inv = c.loop-al.invariant.1 in (
      omega arith,
      split_over inv (split_ext c.turn_planes.ensures
          (λ x h. contracted_turn _ _ al (split_below inv args.eo (nb * nb) (al * nb) (omega (arith, row_le nb more)))
          (split_below inv (args.fo + 2 * (al * (nb * nb))) (nb * nb) x (omega (arith, row_le (nb * nb) more))) (inv.inside x h))),
    )

pub returns : goal.returns
returns c =
    let args = c.args in
    let nb = args.nb in
    let e : c.loop-al.al ≡ nb = omega arith in
    let first = c.clear_planes.ensures in
    split_over first (split_ext (rw e at c.loop-al.invariant.1)
    (λ x h. contracted_ext nb _ _ _ _ (λ al p. split_below first (args.fo + 2 * (al * (nb * nb))) (nb * nb) x (omega (arith, row_le (nb * nb) p)))
    (λ al p. split_below first args.eo (nb * nb) (al * nb) (omega (arith, row_le nb p)))))
