-- An entry that is zero leaves the planes as they are, any other adds its product.
use Rattle.planes.proofs.SplitLaws.{split_same, split_ext}
use Rattle.reciprocal_to_normal.proofs.ContractLaws.{pass, take_it}
use Rattle.reciprocal_to_normal.proofs.contract.turn_planes.Goals as goal

pub returns-then-is_zero : goal.returns-then-is_zero
returns-then-is_zero c = split_same (λ x h. pass c.get_split-e.ensures c.is_zero.ensures _ _ c.if-is_zero.true)

pub returns : goal.returns
returns c = split_ext c.add_planes.ensures (λ x h. take_it c.get_split-e.ensures c.is_zero.ensures _ _ c.if-is_zero.false)
