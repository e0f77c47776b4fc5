-- The floor of the quarter turns, and what is left, as the definition has them.
use lib.Dec.{lit≤}
use lib.Ieee.{of_bits, neg}
use Rattle.phonon.specs.Trig.{in_domain}
use Rattle.floats.proofs.Bounds.{within_mul, within_add}
use Rattle.funcs.proofs.Quarters.{tested}
use Rattle.funcs.proofs.quartered.Goals as goal

pub floor_parts-f-requires : goal.floor_parts-f-requires
unfolding in_domain of_bits neg
floor_parts-f-requires c =
    let x = c.args.x in
    within_add 1048576 1 _ _ (lit≤ tt) (within_mul 1048576 1 x _ (lit≤ tt) (tested x c.requires) (lit≤ tt)) (lit≤ tt)
