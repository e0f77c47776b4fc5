-- All blocks: each loop has stored the box of what it came past, in terms of the factors as they were when it began, which lie below the region.
use Prim.Native.Nat.{◌+◌, ◌*◌, ◌≤◌}
use Rattle.phonon.specs.Handed.{forces_of}
use Rattle.real_to_reciprocal.specs.Stored.{Box, Stored, factors_in, component_at}
use Rattle.real_to_reciprocal.proofs.real_to_reciprocal.Given as goal

abbrev pub invariant-loop-k : goal.invariant-loop-k
invariant-loop-k l = (l.k ≤ l.np) × Stored l.initial.w l.w l.fo l.np (Box (3 * l.i) (3 * l.i + 3) (3 * l.j) (3 * l.j + 3) 0 (3 * l.k)) (component_at l.ns l.anchoring (forces_of l.forces) (factors_in l.initial.w l.f l.np l.ns))

abbrev pub invariant-loop-j : goal.invariant-loop-j
invariant-loop-j l = (l.j ≤ l.np) × Stored l.initial.w l.w l.fo l.np (Box (3 * l.i) (3 * l.i + 3) 0 (3 * l.j) 0 (3 * l.np)) (component_at l.ns l.anchoring (forces_of l.forces) (factors_in l.initial.w l.f l.np l.ns))

abbrev pub invariant-loop-i : goal.invariant-loop-i
invariant-loop-i l = (l.i ≤ l.np) × Stored l.initial.w l.w l.fo l.np (Box 0 (3 * l.i) 0 (3 * l.np) 0 (3 * l.np)) (component_at l.ns l.anchoring (forces_of l.forces) (factors_in l.initial.w l.f l.np l.ns))
