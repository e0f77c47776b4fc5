-- The slots below j are visited.
use Prim.Native.Nat.{◌≤◌}
use lib.ListN.{length}
use Rattle.phonon.specs.Number.{flagged}
use Rattle.planes.specs.Split.{split}
use Rattle.reciprocal_to_normal.specs.Slots.{Visited, j_of, InColumn, strength_in}
use Rattle.reciprocal_to_normal.proofs.slots.fill_column.Given as goal

abbrev pub invariant-loop-j : goal.invariant-loop-j
invariant-loop-j l =
    (l.j ≤ l.c.bands)
    × Visited l.initial.out l.out (flagged l.flags) (λ n. strength_in l.p (split l.w l.ao l.c.bands (j_of l.c.bands n)) (j_of l.c.bands n) l.c.k) (length l.initial.out) (InColumn l.c.bands l.c.b l.c.k l.j)
