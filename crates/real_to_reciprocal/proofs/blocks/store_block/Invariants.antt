-- The 27 numbers stored: after l turns the box of l components of the first leg.
use Prim.Native.Nat.{◌+◌, ◌*◌, ◌%◌, ◌≤◌}
use Rattle.planes.specs.Split.{split}
use Rattle.real_to_reciprocal.specs.Stored.{Box, Stored}
use Rattle.real_to_reciprocal.proofs.blocks.store_block.Given as goal

abbrev pub invariant-loop-l : goal.invariant-loop-l
invariant-loop-l l = (l.l ≤ 3) × Stored l.initial.w l.w l.fo l.np (Box (3 * l.atoms.leg0) (3 * l.atoms.leg0 + l.l) (3 * l.atoms.leg1) (3 * l.atoms.leg1 + 3) (3 * l.atoms.leg2) (3 * l.atoms.leg2 + 3)) (λ x y z. split l.t 0 27 (x % 3 * 9 + y % 3 * 3 + z % 3))
