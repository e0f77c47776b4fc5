-- The phase factors of a pair of atoms: turns of the sum, and the mean.
use mathlib.Core.Path.{◌≡◌, refl, sym, ◌∙◌}
use mathlib.Core.List.{List}
use Prim.Native.Nat.{ℕ, ◌+◌, ◌*◌, ◌<◌, ◌≤◌}
use lib.IntN.{ℤ, pos}
use native.Mathlib.Omega.{arith}
use lib.ListN.{length}
use lib.Ieee.{Float}
use Rattle.phonon.specs.declared.Complex.{Complex}
use Rattle.phonon.specs.Number.{◌⊕◌, ◌⊗◌, ◌⊘◌, f0, f1, f2, float, index, at, int, fold}
use Rattle.phonon.specs.declared.Legs.{Legs}
use Rattle.phonon.specs.Common.{czero, cadd, scale}
use Rattle.phonon.specs.RealToReciprocal.{pi, phase, cis, phase_factor, phase_factor_entry, pre_phase, anchor_vector, pre_factor_entry}
use Rattle.phonon.proofs.Laws.{fold_step, div_of, mod_of}
use Rattle.planes.proofs.Products.{row_le}
use Rattle.real_to_reciprocal.specs.Shape.{Ranged}
use Rattle.real_to_reciprocal.proofs.TestLaws.{Range, ranged_at}

-- the sum over n vectors from `start` on
abbrev pub phase_sum : List Float → List Float → ℕ → ℕ → Complex
phase_sum q vectors start n = fold n czero (λ i s. cadd s (cis (phase q vectors (start + i))))

module _ (q vectors : List Float) (start : ℕ) where
  pub sum_none : czero ≡ phase_sum q vectors start 0
  unfolding fold
  sum_none = refl

  pub sum_turn : {s z r : Complex} {x : Float} (i : ℕ) → s ≡ phase_sum q vectors start i → x ≡ phase q vectors (start + i) → z ≡ cis x → r ≡ cadd s z → r ≡ phase_sum q vectors start (i + 1)
  sum_turn i p e f g = g ∙ rw (f, e, p) (sym (fold_step i czero (λ i s. cadd s (cis (phase q vectors (start + i))))))

  pub mean_of : {s r : Complex} {x : Float} (count : ℕ) → s ≡ phase_sum q vectors start count → x ≡ float (pos count) → r ≡ scale s (f1 ⊘ x) → r ≡ phase_factor q vectors (pos count) (pos start)
  unfolding phase_factor
  mean_of count p e g = g ∙ rw (e, p)

-- the same, by an entry of the multiplicities
pub factor_at : (q vectors : List Float) {r : Complex} {count start n : ℕ} {a b : ℤ} → r ≡ phase_factor q vectors (pos count) (pos start) → count ≡ index a → start ≡ index b → Range n a b → r ≡ phase_factor q vectors a b
factor_at q vectors p e f h = p ∙ rw (e, f, h.count_is, h.start_is)

-- entry i * S + j is the factor of atom i and supercell atom j
pub row_entry_lem : (P S : ℕ) (vectors : List Float) (multiplicity : List ℤ) (q : List Float) (i j : ℕ) → j < S
    → phase_factor q vectors (int multiplicity (2 * (j * P + i))) (int multiplicity (2 * (j * P + i) + 1)) ≡ phase_factor_entry P S vectors multiplicity q (i * S + j)
unfolding phase_factor_entry
row_entry_lem P S vectors multiplicity q i j h = rw (div_of S h i, mod_of S h i)

-- ---- the pre-factors

-- the sum over n components
abbrev pub pre_sum : List Float → Legs (List Float) → ℕ → ℕ → Float
pre_sum vectors q v n = fold n f0 (λ j s. s ⊕ at vectors (3 * v + j) ⊗ (at q.leg0 j ⊕ at q.leg1 j ⊕ at q.leg2 j))

module _ (vectors : List Float) (q : Legs (List Float)) (v : ℕ) where
  pub pre_none : f0 ≡ pre_sum vectors q v 0
  unfolding fold
  pre_none = refl

  pub pre_turn : {s : Float} (j : ℕ) → s ≡ pre_sum vectors q v j → s ⊕ at vectors (3 * v + j) ⊗ (at q.leg0 j ⊕ at q.leg1 j ⊕ at q.leg2 j) ≡ pre_sum vectors q v (j + 1)
  pre_turn j p = rw p (sym (fold_step j f0 (λ j s. s ⊕ at vectors (3 * v + j) ⊗ (at q.leg0 j ⊕ at q.leg1 j ⊕ at q.leg2 j))))

  pub pre_of : {s : Float} → s ≡ pre_sum vectors q v 3 → s ⊗ (f2 ⊗ pi) ≡ pre_phase vectors q v
  unfolding pre_phase
  pre_of p = rw p

module _ (P : ℕ) (vectors : List Float) (multiplicity p2s : List ℤ) (i : ℕ) where
  pub anchor_at : {a b : ℕ} → a ≡ index (int p2s i) → b ≡ index (int multiplicity (2 * (a * P) + 1)) → b ≡ anchor_vector P multiplicity p2s i
  unfolding anchor_vector
  anchor_at e f = f ∙ rw e

  pub pre_factor_at : (q : Legs (List Float)) {b : ℕ} {x : Float} {r : Complex} → b ≡ anchor_vector P multiplicity p2s i → x ≡ pre_phase vectors q b → r ≡ cis x → r ≡ pre_factor_entry P vectors multiplicity p2s q i
  unfolding pre_factor_entry
  pre_factor_at q e f g = g ∙ rw (f, e)

  -- the entry of atom i is in the table, and its first vector among the vectors
  pub anchor_in : {S : ℕ} (r : Ranged vectors multiplicity (S * P)) → 1 ≤ P → index (int p2s i) < S
      → (2 * (index (int p2s i) * P) + 2 ≤ length multiplicity) × (3 * anchor_vector P multiplicity p2s i + 3 ≤ length vectors)
  unfolding anchor_vector
  anchor_in {S} r h l =
      let e = row_le P l in
      let a = ranged_at r (index (int p2s i) * P) (omega arith) in
      (omega (arith, r.entries), omega (arith, a.some, a.ends, r.room))
