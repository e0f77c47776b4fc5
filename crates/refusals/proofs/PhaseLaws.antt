-- The phases of one entry of the multiplicities, and of the three legs; orders of the legs, and triplets of a list.
use Prim.Native.Nat.{ℕ, zero, suc, ◌+◌, ◌*◌, ◌<◌, ◌≤◌}
use native.Mathlib.Omega.{arith}
use mathlib.Core.Bool.{Bool, true, false, ◌&&◌, and-false, and_assoc}
use mathlib.Core.Path.{◌≡◌, refl, ap, ◌∙◌}
use mathlib.Core.List.{List, []}
use lib.IntN.{ℤ, pos}
use lib.ListN.{length, get_or}
use lib.Ieee.{Float}
use Rattle.phonon.specs.Number.{index, int}
use Rattle.phonon.specs.Trig.{in_domain}
use Rattle.phonon.specs.Tests.{every_below, all_true, all_true_after}
use Rattle.phonon.specs.declared.Legs.{Legs}
use Rattle.phonon.specs.Sets.{part, Tables}
use Rattle.phonon.specs.RealToReciprocal.{phase, pre_phase, anchor_vector}
use Rattle.phonon.specs.declared.Symmetry.{Symmetry}
use Rattle.phonon.specs.declared.Symmetry.TheVariants.{Off, Symmetrized}
use Rattle.phonon.specs.Interaction.{orders, picked, exchanged, order_count, legs_at}
use Rattle.phonon.proofs.Laws.{part_at, part_size}
use Rattle.checks.proofs.Laws.{every_step}
use Rattle.phonon.specs.Refusal.{leg_phases_ok, pre_phases_ok, orders_ok, phases_ok}
use Rattle.real_to_reciprocal.specs.Shape.{Anchored}
use Rattle.real_to_reciprocal.proofs.PhaseLaws.{anchor_in}
use Rattle.phonon.proofs.Accepted.{index_below}
use Rattle.refusals.specs.Phases.{Located, Readable, points_fine}

-- ---- one pass for three tests

exchange : (a b c d : Bool) → (a && b) && (c && d) ≡ (a && c) && (b && d)
exchange false b c d = refl
exchange true b false d = and-false b
exchange true b true d = refl

every_both : (p a b : ℕ → Bool) → ((k : ℕ) → p k ≡ a k && b k) → (n : ℕ) → every_below p n ≡ every_below a n && every_below b n
unfolding every_below
every_both p a b e zero = refl
every_both p a b e (suc n) = rw (every_both p a b e n, e n) (exchange (every_below a n) (every_below b n) (a n) (b n))

every_three : (p a b c : ℕ → Bool) → ((k : ℕ) → p k ≡ a k && b k && c k) → (n : ℕ) → every_below p n ≡ every_below a n && every_below b n && every_below c n
every_three p a b c e n = rw (every_both p (λ k. a k && b k) c e n, every_both (λ k. a k && b k) a b (λ k. refl) n) refl

-- one test more, behind what was known before all of them
pub every_behind : (p : ℕ → Bool) (k : ℕ) (h : Bool) {g r : Bool} → g ≡ h && every_below p k → r ≡ p k → g && r ≡ h && every_below p (k + 1)
every_behind p k h {g} {r} e f = rw e (and_assoc h (every_below p k) r ∙ ap (λ (z : Bool). h && z) (every_step p k refl f))

-- ---- the three legs

module _ (vectors q0 q1 q2 : List Float) where
  -- vector i of those from `start` on, at the three q
  abbrev pub vectors_fine : ℕ → ℕ → Bool
  vectors_fine start i =
      in_domain (phase q0 vectors (start + i)) && in_domain (phase q1 vectors (start + i)) && in_domain (phase q2 vectors (start + i))

  -- what three calls told of it
  pub vector_told : (start i : ℕ) {x y z : Bool} {a b c : Float} → a ≡ phase q0 vectors (start + i) → b ≡ phase q1 vectors (start + i) → c ≡ phase q2 vectors (start + i)
      → x ≡ in_domain a → y ≡ in_domain b → z ≡ in_domain c → x && y && z ≡ vectors_fine start i
  vector_told start i u v w e f g = rw (e, f, g, u, v, w) refl

  -- each vector of entry k of the multiplicities
  abbrev pub entry_fine : List ℤ → ℕ → Bool
  entry_fine multiplicity k = every_below (vectors_fine (index (int multiplicity (2 * k + 1)))) (index (int multiplicity (2 * k)))

  pub entry_is : (multiplicity : List ℤ) (k : ℕ) {count start : ℕ} → count ≡ index (int multiplicity (2 * k)) → start ≡ index (int multiplicity (2 * k + 1))
      → every_below (vectors_fine start) count ≡ entry_fine multiplicity k
  entry_is multiplicity k e f = rw (e, f)

  pub legs_are : (multiplicity : List ℤ) (n : ℕ) → every_below (entry_fine multiplicity) n
      ≡ leg_phases_ok vectors multiplicity n q0 && leg_phases_ok vectors multiplicity n q1 && leg_phases_ok vectors multiplicity n q2
  unfolding leg_phases_ok
  legs_are multiplicity n =
      every_three (entry_fine multiplicity) _ _ _
      (λ k. every_three (vectors_fine (index (int multiplicity (2 * k + 1)))) _ _ _ (λ i. refl) (index (int multiplicity (2 * k))))
      n

-- ---- atoms, orders and points

-- atom i, with the three q in one order
abbrev pub atom_fine : ℕ → List Float → List ℤ → List ℤ → Legs (List Float) → ℕ → Bool
atom_fine P vectors multiplicity p2s q i = in_domain (pre_phase vectors q (anchor_vector P multiplicity p2s i))

module _ (P : ℕ) (vectors : List Float) (multiplicity p2s : List ℤ) (i : ℕ) where
  -- the entry of the atom is in the table, and its first vector among the vectors
  pub anchored : Anchored vectors multiplicity p2s P → i < P
      → (2 * (index (int p2s i) * P) + 2 ≤ length multiplicity) × (3 * anchor_vector P multiplicity p2s i + 3 ≤ length vectors)
  anchored h l = anchor_in P vectors multiplicity p2s i h.ranged (omega (arith, l)) (index_below _ _ h.some h.anchors i (omega (arith, h.atoms, l)))

pub atoms_are : (P : ℕ) (vectors : List Float) (multiplicity p2s : List ℤ) (q : Legs (List Float))
    → every_below (atom_fine P vectors multiplicity p2s q) P ≡ pre_phases_ok P vectors multiplicity p2s q
unfolding pre_phases_ok
atoms_are P vectors multiplicity p2s q = refl

-- the legs picked in order o
pub picked_exchanged : (o : ℕ) {order : List ℕ} (q : Legs (List Float)) {r : Legs (List Float)} → order ≡ get_or orders o []
    → r ≡ picked q (get_or order 0 0) (get_or order 1 0) (get_or order 2 0) → r ≡ exchanged o q
unfolding exchanged
picked_exchanged o q e f = f ∙ rw e refl

-- order o of the legs
abbrev pub order_fine : ℕ → List Float → List ℤ → List ℤ → Legs (List Float) → ℕ → Bool
order_fine P vectors multiplicity p2s q o = pre_phases_ok P vectors multiplicity p2s (exchanged o q)

pub orders_are : (P : ℕ) (symmetry : Symmetry) (vectors : List Float) (multiplicity p2s : List ℤ) (q : Legs (List Float))
    → every_below (order_fine P vectors multiplicity p2s q) (order_count symmetry) ≡ orders_ok P symmetry vectors multiplicity p2s q
unfolding orders_ok
orders_are P symmetry vectors multiplicity p2s q = refl

pub count_most : (symmetry : Symmetry) → order_count symmetry ≤ 6
count_most Off = omega arith
count_most Symmetrized = omega arith

-- the points of triplet t of a list of m
pub part_located : {m : ℕ} {triplets addresses : List ℤ} (t : ℕ) → Located (m * 3) triplets addresses → t < m → Located 3 (part 3 t triplets) addresses
part_located {m} {triplets} {addresses} t h l =
    record {
      enough = omega (arith, part_size triplets (t * 3) 3 (omega (arith, h.enough)));
      addressed = λ k b.
          let e : int (part 3 t triplets) k ≡ int triplets (t * 3 + k) = part_at triplets (t * 3) 3 k (pos 0) b in
          rw e (h.addressed (t * 3 + k) (omega arith));
    }

pub part_readable : {m : ℕ} (t : Tables) (triplets : List ℤ) (k : ℕ) → Readable t (m * 3) triplets → k < m → Readable t 3 (part 3 k triplets)
part_readable t triplets k h l = record { located = part_located k h.located l; ranged = h.ranged; anchored = h.anchored }

-- the tests of the three legs and of their orders, at the q of their points
pub phases_told : (t : Tables) (points : List ℤ) {a o : Bool} {q : Legs (List Float)}
    → q ≡ legs_at t.grid points
    → a ≡ leg_phases_ok t.crystal.vectors t.crystal.multiplicity (t.measures.supercell * t.measures.atoms) q.leg0
    && leg_phases_ok t.crystal.vectors t.crystal.multiplicity (t.measures.supercell * t.measures.atoms) q.leg1
    && leg_phases_ok t.crystal.vectors t.crystal.multiplicity (t.measures.supercell * t.measures.atoms) q.leg2
    → o ≡ orders_ok t.measures.atoms t.symmetry t.crystal.vectors t.crystal.multiplicity t.crystal.forces.p2s q
    → a && o ≡ points_fine t points
unfolding phases_ok all_true all_true_after
phases_told t points e l r = rw (l, r, e) refl
