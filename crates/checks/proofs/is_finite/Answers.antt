-- Between the two infinities lie the finite numbers, and no NaN.
use lib.Ieee.{div, of_bits, neg}
use Rattle.checks.proofs.Laws.{above_bottom, at_bottom}
use Rattle.checks.proofs.is_finite.Goals as goal

pub returns-then-bottom-x : goal.returns-then-bottom-x
unfolding div of_bits neg
returns-then-bottom-x c = above_bottom c.args.x c.if-bottom-x.true

pub returns-else-bottom-x : goal.returns-else-bottom-x
unfolding div of_bits neg
returns-else-bottom-x c = at_bottom c.args.x c.if-bottom-x.false
