-- What is left of each fold over the divisors gives the whole.
use mathlib.Core.Path.{◌≡◌}
use mathlib.Core.List.{foldl}
use lib.ListN.{drop}
use Rattle.phonon.specs.Number.{f1}
use Rattle.funcs.proofs.Series.{rising, exp_divisors}
use Rattle.funcs.proofs.exp_series_two.Given as goal

abbrev pub invariant-loop-i : goal.invariant-loop-i
invariant-loop-i l =
    (foldl (rising l.r) l.p (drop l.i exp_divisors) ≡ foldl (rising l.r) f1 exp_divisors)
    × (foldl (rising l.s) l.q (drop l.i exp_divisors) ≡ foldl (rising l.s) f1 exp_divisors)
