-- What is left of each fold over the divisors gives the whole.
use mathlib.Core.Path.{◌∙◌, sym}
use Rattle.std.proofs.Common.{rules}
use lib.Ieee.{of_bits, of_int}
use Rattle.funcs.proofs.Series.{rising, exp_divisors, exp_fold, fold_turn, fold_end}
use Rattle.funcs.proofs.exp_series_two.Goals as goal

pub loop-i-preserved : goal.loop-i-preserved
unfolding of_bits of_int
loop-i-preserved c =
    let l = c.loop-i in
    let a = c.args in (
      fold_turn (rising a.r) l.p exp_divisors l.i (search rules) ∙ l.invariant.0,
      fold_turn (rising a.s) l.q exp_divisors l.i (search rules) ∙ l.invariant.1,
    )

pub returns : goal.returns
returns c =
    let l = c.loop-i in
    let a = c.args in (
      sym (fold_end (rising a.r) l.p exp_divisors l.i (search rules)) ∙ l.invariant.0 ∙ sym (exp_fold a.r),
      sym (fold_end (rising a.s) l.q exp_divisors l.i (search rules)) ∙ l.invariant.1 ∙ sym (exp_fold a.s),
    )
