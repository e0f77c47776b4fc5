-- After o turns each slot that is not flagged holds the first o sixths, summed in turn.
use mathlib.Core.Path.{◌≡◌}
use mathlib.Core.Bool.{cond}
use Prim.Native.Nat.{◌≤◌}
use Rattle.phonon.specs.Number.{f0, flagged, fold, table}
use Rattle.phonon.specs.Handed.{tables_of}
use Rattle.planes.specs.Region.{SameOutside}
use Rattle.real_to_normal.specs.Work.{legs_end, work_end, slot_count, sixth_of}
use Rattle.real_to_normal.proofs.symmetrized.real_to_normal_sym_q.Given as goal

abbrev pub invariant-loop-o : goal.invariant-loop-o
invariant-loop-o l =
    (l.o ≤ 6)
    × (l.out ≡ table (slot_count (tables_of l.p.tables.now)) (λ m. cond (flagged l.flags m) f0 (fold l.o f0 (sixth_of (tables_of l.p.tables.now) l.p.q l.initial.w l.p.g m))))
    × SameOutside l.initial.w l.w (legs_end l.p.tables.now.measures) (work_end l.p.tables.now.measures)
