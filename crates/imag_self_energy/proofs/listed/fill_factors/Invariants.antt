-- After j rows, and k pairs of row j, the table has their factors.
use Prim.Native.Nat.{◌≤◌}
use mathlib.Core.Path.{◌≡◌}
use lib.ListN.{length}
use Rattle.imag_self_energy.specs.Lists.{factor_of}
use Rattle.imag_self_energy.proofs.ListLaws.{Cells}
use Rattle.imag_self_energy.proofs.listed.fill_factors.Given as goal

abbrev pub invariant-loop-k : goal.invariant-loop-k
invariant-loop-k l = (l.k ≤ l.n) × (length l.factors ≡ length l.initial.factors) × Cells l.n l.j l.k (factor_of l.later.seconds.now l.later.thirds.now) l.factors

abbrev pub invariant-loop-j : goal.invariant-loop-j
invariant-loop-j l = (l.j ≤ l.n) × (length l.factors ≡ length l.initial.factors) × Cells l.n l.j 0 (factor_of l.later.seconds.now l.later.thirds.now) l.factors
