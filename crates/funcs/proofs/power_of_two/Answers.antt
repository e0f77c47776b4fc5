-- `funcs::power_of_two` meets its contract. Assumes nothing.
use lib.IntN.{pos}
use mathlib.Core.Bool.{false}
use Rattle.funcs.proofs.Powers.{power_pattern, finite_pattern}
use Rattle.funcs.proofs.power_of_two.Goals as goal

pub float_from_bits-result : goal.float_from_bits-result
float_from_bits-result c = finite_pattern _ false 1 (pos c.args.k) (power_pattern c.args.k c.requires)

pub returns : goal.returns
returns c = power_pattern c.args.k c.requires
