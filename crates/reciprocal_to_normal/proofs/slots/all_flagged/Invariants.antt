-- The slots below j are flagged.
use mathlib.Core.Path.{◌≡◌}
use mathlib.Core.Bool.{true}
use Prim.Native.Nat.{◌≤◌}
use Rattle.phonon.specs.Number.{flagged}
use Rattle.phonon.specs.Sets.{slot}
use Rattle.phonon.specs.Tests.{every_below}
use Rattle.reciprocal_to_normal.proofs.slots.all_flagged.Given as goal

abbrev pub invariant-loop-j : goal.invariant-loop-j
invariant-loop-j l = (l.j ≤ l.c.bands) × (every_below (λ x. flagged l.flags (slot l.c.bands l.c.b x l.c.k)) l.j ≡ true)
