-- The phase factors of one atom: after j turns those of j supercell atoms, each by its entry of the multiplicities.
use mathlib.Core.Path.{◌≡◌, ◌∙◌}
use Prim.Native.Nat.{◌+◌, ◌*◌, ◌<◌}
use Rattle.phonon.proofs.Laws.{pair_lt}
use Rattle.real_to_reciprocal.proofs.TestLaws.{ranged_at}
use Rattle.real_to_reciprocal.proofs.PhaseLaws.{factor_at, row_entry_lem}
use Rattle.real_to_reciprocal.proofs.ThreeLaws.{three_step}
use native.Mathlib.Omega.{arith}
use Rattle.real_to_reciprocal.proofs.phases.phase_factor_row.Goals as goal
use Rattle.real_to_reciprocal.proofs.phases.phase_factor_row.Goals.{In-loop-j}

-- the entry of supercell atom j is in the table, and its number in the array
below : (c : In-loop-j) → c.loop-j.j * c.args.np + c.args.i < c.args.ns * c.args.np
below c = pair_lt c.loop-j-test.true c.requires.0

inside : (c : In-loop-j) → c.args.i * c.args.ns + c.loop-j.j < c.args.np * c.args.ns
inside c = pair_lt c.requires.0 c.loop-j-test.true

pub get_phase_factors-z-requires : goal.get_phase_factors-z-requires
get_phase_factors-z-requires c =
    let r = ranged_at c.requires.2 _ (below (goal.at.get_phase_factors-z-requires c).In-loop-j) in
    omega (arith, r.ends, c.requires.2.room, c.index_at-count.ensures, c.index_at-start.ensures)

pub loop-j-preserved : goal.loop-j-preserved
loop-j-preserved c =
    let k = inside (goal.at.loop-j-preserved c).In-loop-j in
    let r = ranged_at c.requires.2 _ (below (goal.at.loop-j-preserved c).In-loop-j) in
    let z = c.get_phase_factors-z.ensures in
    let n = c.index_at-count.ensures in
    let m = c.index_at-start.ensures in
    let a = c.args in
    let e : a.i * a.ns + (c.loop-j.j + 1) ≡ a.i * a.ns + c.loop-j.j + 1 = omega arith in (
      omega (arith, c.loop-j-test.true),
      rw e
          (three_step _ _ _ c.loop-j.invariant.1 (omega arith) k c.requires.1 (omega arith) (omega arith) (omega arith) c.put_split.ensures c.put_split-in-loop-j.ensures c.put_split-in-loop-j-2.ensures
          (factor_at _ _ z.0 n m r ∙ row_entry_lem _ _ _ _ _ a.i c.loop-j.j c.loop-j-test.true)
          (factor_at _ _ z.1 n m r ∙ row_entry_lem _ _ _ _ _ a.i c.loop-j.j c.loop-j-test.true)
          (factor_at _ _ z.2 n m r ∙ row_entry_lem _ _ _ _ _ a.i c.loop-j.j c.loop-j-test.true)),
    )
