-- The contractions over arrays of the work buffer are the definition's amplitude.
use mathlib.Core.Path.{◌≡◌, refl, sym, ap, ap₂, ◌∙◌}
use mathlib.Core.List.{List}
use Prim.Native.Nat.{ℕ, ◌+◌, ◌*◌, ◌<◌, ◌≤◌}
use native.Mathlib.Nat.{mul-one}
use native.Mathlib.Omega.{arith}
use lib.Ieee.{Float}
use Rattle.phonon.specs.Number.{at}
use Rattle.phonon.specs.Common.{czero, cat}
use Rattle.phonon.specs.ReciprocalToNormal.{place, add_unless_zero, contract_turn, contract_entry, contract, dot, row_entry, rows, amplitude, strength_from, strength}
use Rattle.phonon.proofs.Laws.{fold_ext, ctable_at, div_of, mod_of, pair_lt}
use Rattle.planes.specs.Region.{SameOutside}
use Rattle.planes.specs.Split.{split, WroteSplit, strided}
use Rattle.planes.specs.Layout.{constants_in, column_in}
use Rattle.planes.proofs.SplitLaws.{split_at, split_below}
use Rattle.planes.proofs.RegionLaws.{split_outside}
use Rattle.planes.proofs.LayoutLaws.{column_at, constants_at_lem}
use Rattle.planes.proofs.Products.{row_le}
use Rattle.reciprocal_to_normal.specs.Arrays.{contracted, amplitude_from}
use Rattle.reciprocal_to_normal.specs.declared.plane.Plane.{Plane}
use Rattle.reciprocal_to_normal.specs.Places.{number_in, column_dot}
use Rattle.reciprocal_to_normal.specs.Slots.{b_of, j_of, k_of, InColumn, plane_slot, bands_of, matrix_of, legs1_of, leg1_of, leg2_of, row_of, strength_in, amplitude_in, slot_in, slot_strength}
use Rattle.reciprocal_to_normal.proofs.DotLaws.{dot_ext, dot_commutes}

module _ (p : Plane) where
  abbrev B : ℕ
  B = bands_of p

  -- what is read lies below the row
  module _ {l l' : List Float} {end : ℕ} (u : SameOutside l l' p.row end) where
    pub amplitude_kept : (j k : ℕ) → j < B → k < B → amplitude_in l' p j k ≡ amplitude_in l p j k
    unfolding amplitude_from
    amplitude_kept j k pj pk =
        dot_ext B _ _ _ _
        (λ bm h. dot_ext B _ _ _ _
        (λ cn q. let r = pair_lt q h in split_outside u p.matrix (B * B) (cn * B + bm) (omega (arith, p.fits.2)))
        (λ cn q. let r = pair_lt q pk in split_outside u p.leg2 (B * B) (cn * B + k) (omega (arith, p.fits.4))))
        (λ bm h. let r = pair_lt h pj in split_outside u p.leg1 (B * B) (bm * B + j) (omega (arith, p.fits.3)))

    pub slot_kept : (n : ℕ) → j_of B n < B → k_of B n < B → slot_in l' p n ≡ slot_in l p n
    unfolding plane_slot
    slot_kept n pj pk = ap (λ a. strength_in p a (j_of B n) (k_of B n)) (amplitude_kept (j_of B n) (k_of B n) pj pk)

  -- one row contraction, and then the last dots
  module _ (k : ℕ) {l l₁ : List Float} (w : WroteSplit l l₁ p.row B B (column_dot l (matrix_of p) (leg2_of p k) B)) where
    row_at : (bm : ℕ) → bm < B → split l₁ p.row B bm ≡ dot B (λ cn. split l p.matrix (B * B) (cn * B + bm)) (λ cn. split l p.leg2 (B * B) (cn * B + k))
    row_at bm h = w.inside bm h ∙ dot_ext B _ _ _ _ (λ cn q. refl) (λ cn q. split_at l (p.leg2 + k) p.leg2 (B * B) (cn * B) (cn * B + k) (omega arith))

    leg1_at : (j i : ℕ) → j < B → i < B → split l₁ p.leg1 (B * B) (i * B + j) ≡ split l p.leg1 (B * B) (i * B + j)
    leg1_at j i pj h = let r = pair_lt h pj in split_below w p.leg1 (B * B) (i * B + j) (omega (arith, p.fits.3))

    -- of all j
    dots_are : {l₂ : List Float} (ao : ℕ) → WroteSplit l₁ l₂ ao B B (column_dot l₁ (legs1_of p) (row_of p) B) → (j : ℕ) → j < B → split l₂ ao B j ≡ amplitude_in l p j k
    unfolding amplitude_from
    dots_are ao v j pj =
        v.inside j pj ∙ dot_commutes B _ _
        ∙ dot_ext B _ _ _ _ (λ bm h. split_at l₁ p.row p.row B (bm * 1) bm (ap (λ x. p.row + x) (mul-one bm)) ∙ row_at bm h) (λ i h. leg1_at j i pj h)

    pub pair_is : {l₂ : List Float} (ao : ℕ) → WroteSplit l₁ l₂ ao B B (column_dot l₁ (legs1_of p) (row_of p) B) → (b n : ℕ) → InColumn B b k B n → strength_in p (split l₂ ao B (j_of B n)) (j_of B n) k ≡ slot_in l p n
    unfolding plane_slot
    pair_is ao v b n d = rw d.1 (ap (λ a. strength_in p a (j_of B n) k) (dots_are ao v (j_of B n) d.2))

    -- of one j
    pub dot_is : (j : ℕ) → j < B → dot B (split l₁ p.row B) (number_in l₁ (leg1_of p j)) ≡ amplitude_in l p j k
    unfolding amplitude_from
    dot_is j pj = dot_ext B _ _ _ _ row_at (λ i h. split_at l₁ (p.leg1 + j) p.leg1 (B * B) (i * B) (i * B + j) (omega arith) ∙ leg1_at j i pj h)

    pub sparse_is : (b n : ℕ) → InColumn B b k B n → strength_in p (dot B (split l₁ p.row B) (number_in l₁ (leg1_of p (j_of B n)))) (j_of B n) k ≡ slot_in l p n
    unfolding plane_slot
    sparse_is b n d = rw d.1 (ap (λ a. strength_in p a (j_of B n) k) (dot_is (j_of B n) d.2))

-- ---- the matrix of first band n, and the definition's amplitude

module _ (P fo e0 e1 e2 so n : ℕ) (pn : n < 3 * P)
    (pf : fo + 2 * (3 * P * (3 * P * (3 * P))) ≤ so) (p0 : e0 + 2 * (3 * P * (3 * P)) ≤ so) (p1 : e1 + 2 * (3 * P * (3 * P)) ≤ so) (p2 : e2 + 2 * (3 * P * (3 * P)) ≤ so)
    {l l₁ l₂ : List Float} {end : ℕ} (u : SameOutside l l₁ so end)
    (w : WroteSplit l₁ l₂ so (3 * P * (3 * P)) (3 * P * (3 * P)) (λ x. contracted (3 * P) (λ al. split l₁ (fo + 2 * (al * (3 * P * (3 * P)))) (3 * P * (3 * P)) x) (strided l₁ (e0 + n) (3 * P * (3 * P)) (3 * P)))) where
  constant_at_lem : (al bm cn : ℕ) → al < 3 * P → bm < 3 * P → cn < 3 * P
      → split l₁ (fo + 2 * (al * (3 * P * (3 * P)))) (3 * P * (3 * P)) (cn * (3 * P) + bm) ≡ cat (constants_in l fo P) (place P al bm cn)
  constant_at_lem al bm cn pa pb pc =
      let a = row_le (3 * P * (3 * P)) pa in
      let b = pair_lt pc pb in
      split_outside u _ _ _ (omega arith) ∙ sym (constants_at_lem P al bm cn pa pb pc l fo)

  leg_at : (o : ℕ) → o + 2 * (3 * P * (3 * P)) ≤ so → (m i : ℕ) → m < 3 * P → i < 3 * P → split l₁ o (3 * P * (3 * P)) (i * (3 * P) + m) ≡ cat (column_in l o (3 * P) m) i
  leg_at o p m i pm h = let q = pair_lt h pm in split_outside u o _ _ (omega arith) ∙ sym (column_at l o (3 * P) m i h)

  later_at : (o : ℕ) → o + 2 * (3 * P * (3 * P)) ≤ so → (m i : ℕ) → m < 3 * P → i < 3 * P → split l₂ o (3 * P * (3 * P)) (i * (3 * P) + m) ≡ cat (column_in l o (3 * P) m) i
  later_at o p m i pm h = let q = pair_lt h pm in split_below w o _ _ (omega arith) ∙ leg_at o p m i pm h

  matrix_at : (bm cn : ℕ) → bm < 3 * P → cn < 3 * P → split l₂ so (3 * P * (3 * P)) (cn * (3 * P) + bm) ≡ cat (contract P (constants_in l fo P) (column_in l e0 (3 * P) n)) (bm * (3 * P) + cn)
  unfolding contract contract_entry contract_turn contracted
  matrix_at bm cn pb pc =
      w.inside (cn * (3 * P) + bm) (pair_lt pc pb)
      ∙ fold_ext (3 * P) czero _ _ (λ al pa s. ap₂ (λ e x. add_unless_zero e x s)
      (split_at l₁ (e0 + n) e0 (3 * P * (3 * P)) (al * (3 * P)) (al * (3 * P) + n) (omega arith) ∙ leg_at e0 p0 n al pn pa) (constant_at_lem al bm cn pa pb pc))
      ∙ sym (ctable_at (3 * P * (3 * P)) (bm * (3 * P) + cn) _ (pair_lt pb pc) ∙ rw (div_of (3 * P) pc bm, mod_of (3 * P) pc bm))

  amplitude_is : (j k : ℕ) → j < 3 * P → k < 3 * P → (x y z : Float)
      → amplitude_from (3 * P) (split l₂ so (3 * P * (3 * P))) (split l₂ e1 (3 * P * (3 * P))) (split l₂ e2 (3 * P * (3 * P))) j k
      ≡ amplitude P (constants_in l fo P) (record {
        leg0 = record { frequency = x; column = column_in l e0 (3 * P) n };
        leg1 = record { frequency = y; column = column_in l e1 (3 * P) j };
        leg2 = record { frequency = z; column = column_in l e2 (3 * P) k };
      })
  unfolding amplitude rows row_entry amplitude_from
  amplitude_is j k pj pk x y z =
      dot_ext (3 * P) _ _ _ _
      (λ bm h. dot_ext (3 * P) _ _ _ _ (λ cn q. matrix_at bm cn h q) (λ cn q. later_at e2 p2 k cn pk q) ∙ sym (ctable_at (3 * P) bm _ h))
      (λ i h. later_at e1 p1 j i pj h)

  -- the slots of the first band b, once its matrix is written
  pub plane_is : (freqs0 freqs1 freqs2 : List Float) (band : ℕ → ℕ) (cutoff : Float) (b : ℕ) → n ≡ band b → (s : ℕ) → b_of (3 * P) s ≡ b → j_of (3 * P) s < 3 * P → k_of (3 * P) s < 3 * P
      → plane_slot (3 * P) (split l₂ so (3 * P * (3 * P))) (split l₂ e1 (3 * P * (3 * P))) (split l₂ e2 (3 * P * (3 * P))) (at freqs1) (at freqs2) (at freqs0 n) cutoff s
      ≡ slot_strength P l fo e0 e1 e2 freqs0 freqs1 freqs2 band cutoff s
  unfolding plane_slot slot_strength strength
  plane_is freqs0 freqs1 freqs2 band cutoff b en s eb pj pk =
      rw (eb, ← en)
      (ap (λ a. strength_from cutoff a (at freqs0 n) (at freqs1 (j_of (3 * P) s)) (at freqs2 (k_of (3 * P) s)))
      (amplitude_is (j_of (3 * P) s) (k_of (3 * P) s) pj pk (at freqs0 n) (at freqs1 (j_of (3 * P) s)) (at freqs2 (k_of (3 * P) s))))
