-- Nine numbers stored: after n turns the box of n components of the third leg.
use Prim.Native.Nat.{◌+◌, ◌*◌, ◌%◌, ◌≤◌}
use Rattle.planes.specs.Split.{split}
use Rattle.real_to_reciprocal.specs.Stored.{Box, Stored}
use Rattle.real_to_reciprocal.proofs.blocks.store_plane.Given as goal

abbrev pub invariant-loop-n : goal.invariant-loop-n
invariant-loop-n l = (l.n ≤ 3) × Stored l.initial.w l.w l.fo l.np (Box (3 * l.atoms.leg0 + l.l) (3 * l.atoms.leg0 + l.l + 1) (3 * l.atoms.leg1) (3 * l.atoms.leg1 + 3) (3 * l.atoms.leg2) (3 * l.atoms.leg2 + l.n)) (λ x y z. split l.t 0 27 (9 * l.l + y % 3 * 3 + z % 3))
