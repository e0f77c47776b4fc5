-- The stages of the three legs, one after the other: what each writes is kept by those after it, which write further on.
use mathlib.Core.Path.{◌≡◌, ap, ◌∙◌}
use mathlib.Core.List.{List}
use Prim.Native.Nat.{ℕ, zero, suc, ◌+◌, ◌*◌, ◌<◌, ◌≤◌}
use native.Mathlib.Omega.{arith}
use lib.ListN.{length, take, drop}
use lib.IntN.{ℤ}
use lib.Ieee.{Float}
use Rattle.phonon.specs.declared.Legs.{Legs}
use Rattle.phonon.specs.Sets.{Tables}
use Rattle.phonon.specs.Interaction.{leg}
use Rattle.phonon.specs.RealToReciprocal.{phase_factor_entry, phase_factors}
use Rattle.phonon.specs.ReciprocalToNormal.{inverse_root, inverse_roots, column}
use Rattle.planes.specs.Region.{Wrote, SameOutside}
use Rattle.planes.specs.Layout.{column_in, numbers_in}
use Rattle.planes.proofs.SplitLaws.{split_same}
use Rattle.planes.proofs.RegionLaws.{outside_then, outside_wider}
use Rattle.planes.proofs.WorkLaws.{column_below, reals_below, numbers_wrote, reals_wrote, outside_wrote}
use Rattle.real_to_reciprocal.specs.Three.{WroteThree}
use Rattle.real_to_normal.specs.Work.{columns_at, factors_at, pre_at, Prepared}

-- ---- scaled eigenvectors

module _ (P : ℕ) (eig : List Float) (g : Legs ℕ) {l l₁ l₂ l₃ : List Float} (room : P ≤ length l)
    (s₀ : (n : ℕ) → n < 3 * P → column_in l₁ P (3 * P) n ≡ column (3 * P) eig (take P (drop 0 l)) g.leg0 n)
    (k₀ : SameOutside l l₁ P (P + 2 * (3 * P * (3 * P))))
    (s₁ : (n : ℕ) → n < 3 * P → column_in l₂ (P + 2 * (3 * P * (3 * P))) (3 * P) n ≡ column (3 * P) eig (take P (drop 0 l₁)) g.leg1 n)
    (k₁ : SameOutside l₁ l₂ (P + 2 * (3 * P * (3 * P))) (P + 2 * (3 * P * (3 * P)) + 2 * (3 * P * (3 * P))))
    (s₂ : (n : ℕ) → n < 3 * P → column_in l₃ (P + 2 * (2 * (3 * P * (3 * P)))) (3 * P) n ≡ column (3 * P) eig (take P (drop 0 l₂)) g.leg2 n)
    (k₂ : SameOutside l₂ l₃ (P + 2 * (2 * (3 * P * (3 * P)))) (P + 2 * (2 * (3 * P * (3 * P))) + 2 * (3 * P * (3 * P)))) where
  abbrev D : ℕ
  D = 3 * P * (3 * P)

  inv₁ : take P (drop 0 l₁) ≡ take P (drop 0 l)
  inv₁ = reals_below k₀ 0 P (omega arith) (omega arith)

  inv₂ : take P (drop 0 l₂) ≡ take P (drop 0 l)
  inv₂ = reals_below k₁ 0 P (omega arith) (omega (arith, k₀.size)) ∙ inv₁

  pub legs_scaled : (x n : ℕ) → x < 3 → n < 3 * P → column_in l₃ (columns_at P x) (3 * P) n ≡ column (3 * P) eig (take P (drop 0 l)) (leg g x) n
  legs_scaled zero n h p =
      let e : P + 0 * (2 * D) ≡ P = omega arith in
      ap (λ o. column_in l₃ o (3 * P) n) e ∙ column_below k₂ P (3 * P) n (omega arith) p ∙ column_below k₁ P (3 * P) n (omega arith) p ∙ s₀ n p
  legs_scaled (suc zero) n h p =
      let e : P + 1 * (2 * D) ≡ P + 2 * D = omega arith in
      ap (λ o. column_in l₃ o (3 * P) n) e ∙ column_below k₂ (P + 2 * D) (3 * P) n (omega arith) p ∙ s₁ n p ∙ ap (λ v. column (3 * P) eig v g.leg1 n) inv₁
  legs_scaled (suc (suc zero)) n h p = s₂ n p ∙ ap (λ v. column (3 * P) eig v g.leg2 n) inv₂
  legs_scaled (suc (suc (suc x))) n h p = absurd (omega arith)

  pub legs_outside : SameOutside l l₃ P (columns_at P 3)
  legs_outside =
      outside_then (outside_wider P (columns_at P 3) (omega arith) (omega arith) k₀)
      (outside_then (outside_wider P (columns_at P 3) (omega arith) (omega arith) k₁) (outside_wider P (columns_at P 3) (omega arith) (omega arith) k₂))

-- ---- phase factors

module _ (P S : ℕ) (vectors : List Float) (multiplicity : List ℤ) (q : Legs (List Float)) {l l₁ : List Float}
    (w : WroteThree l l₁ (columns_at P 3) (P * S) 0 (P * S) (λ x. phase_factor_entry P S vectors multiplicity (leg q x))) where
  pub legs_factored : (x : ℕ) → x < 3 → numbers_in l₁ (factors_at P S x) (P * S) (P * S) ≡ phase_factors P S vectors multiplicity (leg q x)
  unfolding phase_factors
  legs_factored x h = numbers_wrote (split_same (λ k p. w.inside x k h (omega arith) p))

  pub factored_outside : SameOutside l l₁ (columns_at P 3) (pre_at P S)
  factored_outside = record { size = w.size; before = w.before; after = λ j p. w.after j (omega arith) }

-- ---- all of it

module _ (t : Tables) (g : Legs ℕ) (q : Legs (List Float)) where
  abbrev P : ℕ
  P = t.measures.atoms

  abbrev S : ℕ
  S = t.measures.supercell

  module _ {l l₁ l₂ l₃ : List Float} (room : P ≤ length l)
      (r : Wrote l l₁ 0 P (inverse_root t.crystal.masses))
      (s : (x n : ℕ) → x < 3 → n < 3 * P → column_in l₂ (columns_at P x) (3 * P) n ≡ column (3 * P) t.phonons.eigenvectors (take P (drop 0 l₁)) (leg g x) n)
      (ks : SameOutside l₁ l₂ P (columns_at P 3))
      (f : (x : ℕ) → x < 3 → numbers_in l₃ (factors_at P S x) (P * S) (P * S) ≡ phase_factors P S t.crystal.vectors t.crystal.multiplicity (leg q x))
      (kf : SameOutside l₂ l₃ (columns_at P 3) (pre_at P S)) where
    roots : take P (drop 0 l₁) ≡ inverse_roots P t.crystal.masses
    unfolding inverse_roots
    roots = reals_wrote r (omega arith)

    columns_in : (x n : ℕ) → x < 3 → n < 3 * P → column_in l₃ (columns_at P x) (3 * P) n ≡ column (3 * P) t.phonons.eigenvectors (inverse_roots P t.crystal.masses) (leg g x) n
    columns_in x n h p =
        column_below kf (columns_at P x) (3 * P) n (region x h) p ∙ s x n h p ∙ ap (λ v. column (3 * P) t.phonons.eigenvectors v (leg g x) n) roots
      where
        region : (x : ℕ) → x < 3 → columns_at P x + 2 * (3 * P * (3 * P)) ≤ columns_at P 3
        region zero h = omega arith
        region (suc zero) h = omega arith
        region (suc (suc zero)) h = omega arith
        region (suc (suc (suc x))) h = absurd (omega arith)

    pub prepared : Prepared l₃ t g q
    prepared = record { columns = columns_in; factors = record { factors = f } }

    pub prepared_outside : SameOutside l l₃ 0 (pre_at P S)
    prepared_outside =
        outside_then (outside_wrote 0 (pre_at P S) (omega arith) (omega arith) r)
        (outside_then (outside_wider 0 (pre_at P S) (omega arith) (omega arith) ks) (outside_wider 0 (pre_at P S) (omega arith) (omega arith) kf))
