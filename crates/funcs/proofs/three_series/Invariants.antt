-- What is left of the six folds over the divisors gives the whole.
use mathlib.Core.Path.{◌≡◌}
use mathlib.Core.List.{foldl}
use lib.ListN.{drop}
use Rattle.phonon.specs.Number.{f1}
use Rattle.funcs.proofs.Series.{alternating}
use Rattle.funcs.proofs.three_series.Given as goal

abbrev pub invariant-loop-i : goal.invariant-loop-i
invariant-loop-i l =
    (foldl (alternating l.x) l.s (drop l.i l.sines) ≡ foldl (alternating l.x) f1 l.sines)
    × (foldl (alternating l.x) l.c (drop l.i l.cosines) ≡ foldl (alternating l.x) f1 l.cosines)
    × (foldl (alternating l.y) l.t (drop l.i l.sines) ≡ foldl (alternating l.y) f1 l.sines)
    × (foldl (alternating l.y) l.d (drop l.i l.cosines) ≡ foldl (alternating l.y) f1 l.cosines)
    × (foldl (alternating l.z) l.u (drop l.i l.sines) ≡ foldl (alternating l.z) f1 l.sines)
    × (foldl (alternating l.z) l.e (drop l.i l.cosines) ≡ foldl (alternating l.z) f1 l.cosines)
