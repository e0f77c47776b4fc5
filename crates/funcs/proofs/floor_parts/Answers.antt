-- `funcs::floor_parts` meets its contract: the sum is one of the whole numbers around, and the comparison says which. Assumes nothing.
use Rattle.funcs.proofs.Shift.{found}
use Rattle.funcs.proofs.floor_parts.Goals as goal

pub float_to_bits-digits : goal.float_to_bits-digits
float_to_bits-digits c = (found c.args.y c.requires).number

pub returns-then-y-near : goal.returns-then-y-near
returns-then-y-near c = (found c.args.y c.requires).upper c.if-y-near.true

pub returns : goal.returns
returns c = (found c.args.y c.requires).lower c.if-y-near.false
