-- `funcs::both_series` meets its contract: what is left of the two folds over the divisors gives the whole. Assumes nothing.
use mathlib.Core.Path.{refl, ◌∙◌, sym}
use native.Mathlib.Omega.{arith}
use lib.Ieee.{of_bits, of_int}
use Rattle.funcs.proofs.Series.{alternating, sine_divisors, cosine_divisors, sine_fold, cosine_fold, fold_turn, fold_end}
use Rattle.funcs.proofs.both_series.Goals as goal

pub loop-i-preserved : goal.loop-i-preserved
unfolding of_bits of_int
loop-i-preserved c =
    let l = c.loop-i in
    let z = c.args.z in
    (fold_turn (alternating z) l.s sine_divisors l.i (omega (arith, c.loop-i-test.true)) ∙ l.invariant.0, fold_turn (alternating z) l.c cosine_divisors l.i (omega (arith, c.loop-i-test.true)) ∙ l.invariant.1)

pub returns : goal.returns
returns c =
    let l = c.loop-i in
    let z = c.args.z in
    rw (sine_fold z, cosine_fold z, sym l.invariant.0, sym l.invariant.1, fold_end (alternating z) l.s sine_divisors l.i (omega arith), fold_end (alternating z) l.c cosine_divisors l.i (omega arith)) refl
