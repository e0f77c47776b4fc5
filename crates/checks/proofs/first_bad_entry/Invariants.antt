-- The entries before number j * columns + i are passed: the first to fail from there on is the first of all.
use Prim.Native.Nat.{ℕ, ◌+◌, ◌*◌, ◌≤◌}
use mathlib.Core.Path.{◌≡◌}
use mathlib.Core.Bool.{Bool}
use mathlib.Core.List.{List}
use lib.IntN.{ℤ}
use Rattle.std.specs.Prelude.{None}
use Rattle.phonon.specs.Number.{int}
use Rattle.phonon.specs.Tests.{vector_range}
use Rattle.checks.specs.Scan.{Passed}
use Rattle.checks.proofs.first_bad_entry.Given as goal

-- the test of entry n
abbrev pub fine : ℕ → List ℤ → ℕ → Bool
fine vectors table n = vector_range vectors (int table (2 * n)) (int table (2 * n + 1))

abbrev pub invariant-loop-i : goal.invariant-loop-i
invariant-loop-i l = (l.i ≤ l.columns) × (l.found ≡ None) × Passed (fine l.vectors l.table) (l.rows * l.columns) (l.j * l.columns + l.i)

abbrev pub invariant-rows : goal.invariant-rows
invariant-rows l = (l.j ≤ l.rows) × (l.found ≡ None) × Passed (fine l.vectors l.table) (l.rows * l.columns) (l.j * l.columns)
