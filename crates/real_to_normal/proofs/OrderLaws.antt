-- One leg order: the tables that lie before the force constants are what the definition reads.
use mathlib.Core.Path.{◌≡◌, refl, ap, ◌∙◌}
use mathlib.Core.List.{List}
use Prim.Native.Nat.{ℕ, zero, suc, ◌+◌, ◌*◌, ◌<◌}
use native.Mathlib.Omega.{arith}
use lib.ListN.{get_or}
use lib.Ieee.{Float}
use Rattle.phonon.specs.declared.Legs.{Legs}
use Rattle.phonon.specs.Sets.{Tables}
use Rattle.phonon.specs.Interaction.{leg, picked}
use Rattle.phonon.specs.RealToReciprocal.{phase_factors, pre_factor_entry, pre_factors, reciprocal_from, reciprocal}
use Rattle.planes.specs.Split.{WroteSplit}
use Rattle.planes.specs.Region.{SameOutside}
use Rattle.planes.specs.Layout.{numbers_in, constants_in}
use Rattle.planes.proofs.RegionLaws.{outside_then, outside_wider, outside_split}
use Rattle.planes.proofs.WorkLaws.{numbers_below, numbers_wrote}
use Rattle.planes.proofs.Products.{row_le}
use Rattle.real_to_reciprocal.specs.Stored.{region_end}
use Rattle.real_to_normal.specs.Work.{columns_at, factors_at, pre_at, constants_at, scratch_at, places, Order, Factored, reciprocal_of}

-- where leg x's numbers begin
place_of : (base size x : ℕ) → x < 3 → leg (places base size) x ≡ base + x * size
place_of base size zero h = omega arith
place_of base size (suc zero) h = omega arith
place_of base size (suc (suc zero)) h = refl
place_of base size (suc (suc (suc x))) h = absurd (omega arith)

pub placed : (base size : ℕ) {s : Legs ℕ} → s ≡ places base size → (x a : ℕ) → x < 3 → a ≡ leg s x → a ≡ base + x * size
placed base size e x a h p = p ∙ ap (λ d. leg d x) e ∙ place_of base size x h

module _ (t : Tables) (order : List ℕ) (o : Order order) where
  abbrev P : ℕ
  P = t.measures.atoms

  abbrev S : ℕ
  S = t.measures.supercell

  -- the legs in this order
  abbrev legs : {A : Type 0} → Legs A → Legs A
  legs s = picked s (get_or order 0 0) (get_or order 1 0) (get_or order 2 0)

  module _ (q : Legs (List Float)) {l l₁ l₂ : List Float} {p : Legs (List Float)} {s f : Legs ℕ} (ep : p ≡ legs q) (es : s ≡ places (columns_at P 3) (2 * (P * S))) (ef : f ≡ legs s)
      (h : Factored l t q)
      (w : WroteSplit l l₁ (pre_at P S) P P (pre_factor_entry P t.crystal.vectors t.crystal.multiplicity t.crystal.forces.p2s p))
      (r : constants_in l₂ (constants_at P S) P ≡ reciprocal_from P S t.settings.anchoring t.crystal.forces (numbers_in l₁ (pre_at P S) P P)
      (record { leg0 = numbers_in l₁ f.leg0 (P * S) (P * S); leg1 = numbers_in l₁ f.leg1 (P * S) (P * S); leg2 = numbers_in l₁ f.leg2 (P * S) (P * S) }))
      (k : SameOutside l₁ l₂ (constants_at P S) (region_end (constants_at P S) P)) where
    kept₁ : SameOutside l l₁ (pre_at P S) (constants_at P S)
    kept₁ = outside_split (pre_at P S) (constants_at P S) (omega arith) (omega arith) refl w

    pre_is : numbers_in l₁ (pre_at P S) P P ≡ pre_factors P t.crystal.vectors t.crystal.multiplicity t.crystal.forces.p2s (legs q)
    unfolding pre_factors
    pre_is = numbers_wrote w ∙ ap (pre_factors P t.crystal.vectors t.crystal.multiplicity t.crystal.forces.p2s) ep

    factors_are : (x g : ℕ) → x < 3 → g ≡ leg s x → numbers_in l₁ g (P * S) (P * S) ≡ phase_factors P S t.crystal.vectors t.crystal.multiplicity (leg q x)
    factors_are x g p e =
        ap (λ a. numbers_in l₁ a (P * S) (P * S)) (placed (columns_at P 3) (2 * (P * S)) es x g p e) ∙ numbers_below kept₁ (factors_at P S x) (P * S) (P * S) (omega (arith, row_le (2 * (P * S)) p)) ∙ h.factors x p

    pub order_is : constants_in l₂ (constants_at P S) P ≡ reciprocal_of t (legs q)
    unfolding reciprocal
    order_is =
        let u = factors_are (get_or order 0 0) f.leg0 o.leg0 (ap (λ d. d.leg0) ef) in
        let v = factors_are (get_or order 1 0) f.leg1 o.leg1 (ap (λ d. d.leg1) ef) in
        let z = factors_are (get_or order 2 0) f.leg2 o.leg2 (ap (λ d. d.leg2) ef) in
        r ∙ (λ i. reciprocal_from P S t.settings.anchoring t.crystal.forces (pre_is i) (record { leg0 = u i; leg1 = v i; leg2 = z i }))

    pub order_outside : SameOutside l l₂ (pre_at P S) (scratch_at P S)
    order_outside = outside_then (outside_wider (pre_at P S) (scratch_at P S) (omega arith) (omega arith) kept₁) (outside_wider (pre_at P S) (scratch_at P S) (omega arith) (omega arith) k)
