-- A set that fails a test is answered with its refusal and left as it is; one that passes meets what the sum requires.
use mathlib.Core.Path.{◌≡◌}
use native.Mathlib.Omega.{arith}
use borrow.Author.Rules.{rules}
use lib.ListN.{length}
use Rattle.checks.proofs.AnswerLaws.{handed_on}
use Rattle.imag_self_energy.proofs.CheckLaws.{passes, refused, few, sized, reached, accepted}
use Rattle.imag_self_energy.proofs.imag_self_energy_at_triplet.Goals as goal

pub returns-in_err-check : goal.returns-in_err-check
returns-in_err-check c = rw (handed_on _ c.from_residual.ensures.1) (refused _ _ (rw c.in_err-check.was at c.check.ensures))

pub overflow_mul-sum : goal.overflow_mul-sum
overflow_mul-sum c = omega (arith, few _ (passes c.check.ensures c.in_ok-check.was))

pub write_totals-requires : goal.write_totals-requires
write_totals-requires c =
    let e = passes c.check.ensures c.in_ok-check.was in
    let three : length c.args.triplet ≡ 3 = search rules in
    (sized _ e, reached _ e 1 (omega arith), reached _ e 2 (omega arith))

pub returns : goal.returns
returns c = accepted _ (passes c.check.ensures c.in_ok-check.was) _ c.write_totals.ensures
