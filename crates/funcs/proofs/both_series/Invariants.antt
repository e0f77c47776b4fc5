-- `funcs::both_series` meets its contract: what is left of the two folds over the divisors gives the whole. Assumes nothing.
use mathlib.Core.Path.{◌≡◌}
use mathlib.Core.List.{foldl}
use lib.ListN.{drop}
use Rattle.phonon.specs.Number.{f1}
use Rattle.funcs.proofs.Series.{alternating, sine_divisors, cosine_divisors}
use Rattle.funcs.proofs.both_series.Given as goal

abbrev pub invariant-loop-i : goal.invariant-loop-i
invariant-loop-i l = (foldl (alternating l.z) l.s (drop l.i sine_divisors) ≡ foldl (alternating l.z) f1 sine_divisors) × (foldl (alternating l.z) l.c (drop l.i cosine_divisors) ≡ foldl (alternating l.z) f1 cosine_divisors)
