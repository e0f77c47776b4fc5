-- The means over the vectors of a range: before vector v the sums over those from `start` on.
use mathlib.Core.Path.{◌≡◌, refl}
use Prim.Native.Nat.{◌+◌, ◌-◌}
use Rattle.real_to_reciprocal.proofs.PhaseLaws.{sum_none, sum_turn, mean_of}
use native.Mathlib.Omega.{arith}
use borrow.Author.Rules.{rules}
use Rattle.real_to_reciprocal.proofs.phases.get_phase_factors.Goals as goal

pub loop-v-init : goal.loop-v-init
loop-v-init c =
    let e : c.args.start - c.args.start ≡ 0 = omega arith in
    (omega arith, omega arith, rw e (sum_none _ _ _), rw e (sum_none _ _ _), rw e (sum_none _ _ _))

pub loop-v-preserved : goal.loop-v-preserved
loop-v-preserved c =
    let l = c.loop-v in
    let s = c.args.start in
    let e = c.add_factors-sum.ensures in
    let n : l.v + 1 - s ≡ l.v - s + 1 = omega arith in
    let m : s + (l.v - s) ≡ l.v = omega arith in (
      omega arith,
      omega arith,
      rw n (sum_turn _ _ _ (l.v - s) l.invariant.2 (rw m c.phase.ensures) refl e.0),
      rw n (sum_turn _ _ _ (l.v - s) l.invariant.3 (rw m c.phase-in-loop-v.ensures) refl e.1),
      rw n (sum_turn _ _ _ (l.v - s) l.invariant.4 (rw m c.phase-in-loop-v-2.ensures) refl e.2),
    )

pub returns : goal.returns
returns c =
    let l = c.loop-v in
    let n = c.args.count in
    let f = c.float_of.ensures in
    let e : l.v - c.args.start ≡ n = omega arith in (
      mean_of _ _ _ n (rw e at l.invariant.2) f (search rules),
      mean_of _ _ _ n (rw e at l.invariant.3) f (search rules),
      mean_of _ _ _ n (rw e at l.invariant.4) f (search rules),
    )
