-- The definitions read the pre-factors of P atoms and the phase factors of P * S pairs alone: factors that agree there give the same numbers.
use mathlib.Core.Path.{◌≡◌, sym, ap, ap₂}
use mathlib.Core.List.{List}
use Prim.Native.Nat.{ℕ, ◌+◌, ◌*◌, ◌/◌, ◌<◌}
use native.Mathlib.Omega.{arith}
use lib.Ieee.{Float}
use Rattle.phonon.specs.declared.Complex.{Complex}
use Rattle.phonon.specs.declared.Anchoring.{Anchoring}
use Rattle.phonon.specs.declared.Anchoring.TheVariants.{Plain, Averaged}
use Rattle.phonon.specs.declared.Leg.{Leg}
use Rattle.real_to_reciprocal.specs.declared.blocks.FactorPlaces.{FactorPlaces}
use Rattle.phonon.specs.Common.{czero, cadd, cmul, cat}
use Rattle.phonon.specs.Sets.{Forces}
use Rattle.phonon.specs.RealToReciprocal.{pair_taken, pair_term, element, Factors, over3, plain_element, averaged_element, anchored}
use Rattle.phonon.proofs.Laws.{fold_ext, ctable_at, pair_lt}
use Rattle.planes.specs.Split.{split}
use Rattle.planes.specs.Region.{SameOutside}
use Rattle.planes.specs.Layout.{numbers_in}
use Rattle.planes.proofs.RegionLaws.{split_outside}
use Rattle.real_to_reciprocal.specs.Stored.{factors_in, FactorsBelow, component_at}

pub element_ext : (P S : ℕ) (c : Forces) (g : Leg) (p p' r r' : ℕ → Complex) (i a b e : ℕ) → ((n : ℕ) → n < P * S → p n ≡ p' n) → ((n : ℕ) → n < P * S → r n ≡ r' n) → i < P
    → element S c g p r i a b e ≡ element S c g p' r' i a b e
unfolding element pair_taken pair_term
element_ext P S c g p p' r r' i a b e hp hr l =
    fold_ext S czero _ _ (λ j lj s. fold_ext S s _ _ (λ k lk t. rw (hp (i * S + j) (pair_lt l lj), hr (i * S + k) (pair_lt l lk))))

-- factors that agree
pub record Agree (P S : ℕ) (w w' : Factors) : Type 0 where
  pub pre : (k : ℕ) → k < P → w.pre k ≡ w'.pre k
  pub leg0 : (n : ℕ) → n < P * S → w.legs.leg0 n ≡ w'.legs.leg0 n
  pub leg1 : (n : ℕ) → n < P * S → w.legs.leg1 n ≡ w'.legs.leg1 n
  pub leg2 : (n : ℕ) → n < P * S → w.legs.leg2 n ≡ w'.legs.leg2 n

pub anchored_ext : {P S : ℕ} {w w' : Factors} (c : Forces) (i j k l m n : ℕ) (a : Anchoring) → Agree P S w w' → i < P → j < P → k < P → anchored S c w i j k l m n a ≡ anchored S c w' i j k l m n a
unfolding anchored plain_element averaged_element
anchored_ext {P} {S} {w} {w'} c i j k l m n Plain h pi pj pk =
    ap₂ cmul (element_ext P S c _ _ _ _ _ i j k _ h.leg1 h.leg2 pi) (h.pre i pi)
anchored_ext {P} {S} {w} {w'} c i j k l m n Averaged h pi pj pk =
    ap over3 (ap₂ cadd (ap₂ cadd (ap (cadd czero)
    (ap₂ cmul (element_ext P S c _ _ _ _ _ i j k _ h.leg1 h.leg2 pi) (h.pre i pi)))
    (ap₂ cmul (element_ext P S c _ _ _ _ _ j i k _ h.leg0 h.leg2 pj) (h.pre j pj)))
    (ap₂ cmul (element_ext P S c _ _ _ _ _ k j i _ h.leg1 h.leg0 pk) (h.pre k pk)))

module _ {fo P S : ℕ} {f : FactorPlaces} (h : FactorsBelow fo f P S) {l l₁ : List Float} {b : ℕ} (w : SameOutside l l₁ fo b) where
  outside_agree : Agree P S (factors_in l₁ f P S) (factors_in l f P S)
  outside_agree = record {
    pre = λ k p. split_outside w f.pre P k (omega (arith, h.pre));
    leg0 = λ n p. split_outside w f.legs.leg0 (P * S) n (omega (arith, h.leg0));
    leg1 = λ n p. split_outside w f.legs.leg1 (P * S) n (omega (arith, h.leg1));
    leg2 = λ n p. split_outside w f.legs.leg2 (P * S) n (omega (arith, h.leg2));
  }

  pub component_outside : (c : Forces) (a : Anchoring) (al bm cn : ℕ) → al < 3 * P → bm < 3 * P → cn < 3 * P
      → component_at S a c (factors_in l₁ f P S) al bm cn ≡ component_at S a c (factors_in l f P S) al bm cn
  unfolding component_at
  component_outside c a al bm cn p q r = anchored_ext c (al / 3) (bm / 3) (cn / 3) _ _ _ a outside_agree (omega arith) (omega arith) (omega arith)

-- the factors of a region, as a list
numbers_at : (l : List Float) (off d n k : ℕ) → k < n → split l off d k ≡ cat (numbers_in l off d n) k
unfolding numbers_in
numbers_at l off d n k h = sym (ctable_at n k (split l off d) h)

pub lists_agree : (l : List Float) (f : FactorPlaces) (P S : ℕ) → Agree P S (factors_in l f P S)
    (record { pre = cat (numbers_in l f.pre P P); legs = record { leg0 = cat (numbers_in l f.legs.leg0 (P * S) (P * S)); leg1 = cat (numbers_in l f.legs.leg1 (P * S) (P * S)); leg2 = cat (numbers_in l f.legs.leg2 (P * S) (P * S)) } })
lists_agree l f P S = record {
  pre = λ k p. numbers_at l f.pre P P k p;
  leg0 = λ n p. numbers_at l f.legs.leg0 (P * S) (P * S) n p;
  leg1 = λ n p. numbers_at l f.legs.leg1 (P * S) (P * S) n p;
  leg2 = λ n p. numbers_at l f.legs.leg2 (P * S) (P * S) n p;
}
