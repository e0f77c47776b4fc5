-- So far all is good if every entry before number n is fine, and of entry n every vector before number i.
use Prim.Native.Nat.{◌≤◌}
use mathlib.Core.Path.{◌≡◌}
use mathlib.Core.Bool.{◌&&◌}
use Rattle.phonon.specs.Tests.{every_below}
use Rattle.refusals.proofs.PhaseLaws.{vectors_fine, entry_fine}
use Rattle.refusals.proofs.phases.legs_phases_ok.Given as goal

abbrev pub invariant-loop-i : goal.invariant-loop-i
invariant-loop-i l = (l.i ≤ l.count) × (l.good ≡ l.initial.good && every_below (vectors_fine l.vectors l.q.leg0 l.q.leg1 l.q.leg2 l.start) l.i)

abbrev pub invariant-loop-n : goal.invariant-loop-n
invariant-loop-n l = (l.n ≤ l.entries) × (l.good ≡ every_below (entry_fine l.vectors l.q.leg0 l.q.leg1 l.q.leg2 l.multiplicity) l.n)
