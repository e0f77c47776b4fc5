-- After t turns the first t parts of the strengths are worked, the rest is as found, and the work buffer is cleared if t is not 0.
use Prim.Native.Nat.{◌≤◌}
use Rattle.phonon.specs.Handed.{tables_of}
use Rattle.interaction.proofs.ListLaws.{Worked}
use Rattle.interaction.proofs.list.work_list.Given as goal

abbrev pub invariant-loop-t : goal.invariant-loop-t
invariant-loop-t l =
    (l.t ≤ l.list)
    × Worked (record { tables = tables_of l.tables; list = l.list; triplets = l.triplets; flags = l.flags; strengths = l.fn.strengths; work = l.fn.work }) l.t l.strengths l.work
