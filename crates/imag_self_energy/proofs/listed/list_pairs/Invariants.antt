-- After k columns, and j pairs of column k, the list has those that both exceed the cutoff.
use Prim.Native.Nat.{◌+◌, ◌*◌, ◌≤◌}
use mathlib.Core.Path.{◌≡◌}
use lib.ListN.{length}
use Rattle.phonon.specs.Number.{fold}
use Rattle.imag_self_energy.specs.Lists.{Listed, pair_step, pair_column}
use Rattle.imag_self_energy.proofs.listed.list_pairs.Given as goal

abbrev pub invariant-loop-j : goal.invariant-loop-j
invariant-loop-j l =
    (l.j ≤ l.n)
    × (l.m ≤ l.k * l.n + l.j)
    × (length l.pairs ≡ length l.initial.pairs)
    × Listed (l.n * l.n) (λ z g. fold l.j (fold l.k z (pair_column l.cutoff l.n l.later.seconds.now l.later.thirds.now g)) (pair_step l.cutoff l.n l.later.seconds.now g l.k l.q)) l.pairs l.m

abbrev pub invariant-loop-k : goal.invariant-loop-k
invariant-loop-k l = (l.k ≤ l.n) × (l.m ≤ l.k * l.n) × (length l.pairs ≡ length l.initial.pairs) × Listed (l.n * l.n) (λ z g. fold l.k z (pair_column l.cutoff l.n l.later.seconds.now l.later.thirds.now g)) l.pairs l.m
