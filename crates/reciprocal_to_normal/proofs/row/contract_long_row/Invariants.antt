-- The columns of i turns are written; the last six, of which some may be written anew, end the row.
use Prim.Native.Nat.{◌-◌, ◌*◌}
use Rattle.planes.specs.Split.{WroteSplit}
use Rattle.reciprocal_to_normal.specs.Places.{column_dot}
use Rattle.reciprocal_to_normal.proofs.row.contract_long_row.Given as goal

abbrev pub invariant-loop-i : goal.invariant-loop-i
invariant-loop-i l = WroteSplit l.initial.w l.w l.ro l.n (l.n - (l.n - 6 * l.i)) (column_dot l.initial.w l.m l.v l.n)
