-- What tables that passed their tests make safe to read; and the groups of tests of lent buffers, told by their lengths.
use Prim.Native.Nat.{ℕ, ◌*◌, ◌≤◌}
use native.Mathlib.Omega.{arith}
use mathlib.Core.Bool.{true}
use mathlib.Core.Path.{◌≡◌, refl}
use mathlib.Core.List.{List}
use lib.IntN.{ℤ}
use lib.Ieee.{Float}
use lib.ListN.{length}
use Rattle.phonon.specs.declared.Sizes.{Sizes}
use Rattle.phonon.specs.declared.Bath.{Bath}
use Rattle.phonon.specs.Sets.{Tables}
use Rattle.phonon.specs.Refusal.{lowest, points_ok, tests_of, slot_tests, point_tests, bath_tests}
use Rattle.phonon.proofs.Lowest.{passing}
use Rattle.phonon.proofs.Accepted.{TablesGood, table_facts, index_below}
use Rattle.real_to_reciprocal.specs.Shape.{Ranged}
use Rattle.refusals.specs.Phases.{Readable}

-- ---- tables and points that passed: what the tests of the phases ask for

safe : (t : Tables) → TablesGood t → (n : ℕ) (points : List ℤ) → n ≤ length points → points_ok t.measures.grid points ≡ true → Readable t n points
unfolding points_ok
safe t g n points h e =
    let l = g.sized in
    let r : Ranged t.crystal.vectors t.crystal.multiplicity (t.measures.supercell * t.measures.atoms) =
    record { count = t.measures.vectors; room = omega (arith, l.vectors); entries = omega (arith, l.multiplicity); ranges = g.indexed.ranges } in
    record {
      located = record { enough = h; addressed = λ k b. omega (arith, l.addresses, index_below t.measures.grid points g.measured.grid e k (omega arith)) };
      ranged = r;
      anchored = record { supercell = t.measures.supercell; some = g.measured.supercell; atoms = l.p2s; anchors = g.indexed.p2s; ranged = r };
    }

-- from the numbers of the two groups
pub phases_safe : (t : Tables) (n : ℕ) (points : List ℤ) → lowest (tests_of t) ≡ 0 → lowest (point_tests t.measures.grid points) ≡ 0 → n ≤ length points → Readable t n points
phases_safe t n points e f h = safe t (table_facts t e) n points h (passing (point_tests t.measures.grid points) refl f).0

-- ---- groups of tests of lent buffers, told by their lengths

-- n z slots, of a set whose sizes are z
pub slots_same : (n : Sizes → ℕ) (f : ℕ) (v w : List Float) {k i j : ℕ} {z y : Sizes} → k ≡ lowest (slot_tests (n z) z f i j) → z ≡ y → length v ≡ i → length w ≡ j
    → k ≡ lowest (slot_tests (n y) y f (length v) (length w))
slots_same n f v w e p q r = rw (e, p, q, r) refl

pub bath_same : (F : ℕ) (h : Bath) (first second u : List Float) {k i : ℕ} {z y : Sizes} → k ≡ lowest (bath_tests z.slots F h first second i) → z ≡ y → length u ≡ i
    → k ≡ lowest (bath_tests y.slots F h first second (length u))
bath_same F h first second u e p q = rw (e, p, q) refl
