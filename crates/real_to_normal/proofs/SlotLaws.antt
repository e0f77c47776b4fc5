-- The phonons of a slot, as the work buffer holds them before and after the force constants were written behind them.
use mathlib.Core.Path.{◌≡◌, refl, ap, ◌∙◌}
use mathlib.Core.Bool.{true, cond}
use mathlib.Core.List.{List, [], ◌∷◌}
use Prim.Native.Nat.{ℕ, zero, suc, ◌+◌, ◌-◌, ◌*◌, ◌/◌, ◌%◌, ◌<◌, ◌≤◌}
use native.Mathlib.Omega.{arith}
use lib.IntN.{ℤ, pos}
use lib.ListN.{length, get_or}
use lib.Ieee.{Float}
use Rattle.phonon.specs.Number.{◌⊕◌, ◌⊘◌, f6, at, index, int, flagged, table}
use Rattle.phonon.specs.declared.Legs.{Legs}
use Rattle.phonon.specs.Sets.{slot, part}
use Rattle.phonon.specs.Tests.{all_within}
use Rattle.phonon.specs.Interaction.{leg, picked}
use Rattle.phonon.specs.ReciprocalToNormal.{strength}
use Rattle.phonon.proofs.Laws.{table_ext, pair_lt}
use Rattle.phonon.proofs.Accepted.{index_below}
use Rattle.planes.specs.Region.{SameOutside}
use Rattle.planes.specs.Layout.{column_in, phonon_in, constants_in}
use Rattle.planes.proofs.WorkLaws.{column_below}
use Rattle.planes.proofs.Products.{row_le}
use Rattle.reciprocal_to_normal.specs.Slots.{b_of, j_of, k_of}
use Rattle.reciprocal_to_normal.specs.Listing.{WroteAbove, source_place}
use Rattle.reciprocal_to_normal.proofs.SlotLaws.{b_of_lem, j_of_lem, k_of_lem, j_lt, k_lt, b_lt}
use Rattle.real_to_normal.specs.Work.{columns_at, places, Order, leg_in, bands_of_slot, slot_in}
use Rattle.real_to_normal.proofs.OrderLaws.{placed}

-- one of three, from a list and by legs
pick_list : (x y z o : ℕ) → o < 3 → get_or (x ∷ y ∷ z ∷ []) o 0 ≡ leg (record { leg0 = x; leg1 = y; leg2 = z }) o
pick_list x y z zero h = refl
pick_list x y z (suc zero) h = refl
pick_list x y z (suc (suc zero)) h = refl
pick_list x y z (suc (suc (suc o))) h = absurd (omega arith)

-- the bands of a slot are bands
pub slot_bands : (P : ℕ) (bands : List ℤ) (m : ℕ) → 1 ≤ P → all_within (pos 0) (pos (3 * P - 1)) bands ≡ true → m < length bands * (3 * P) * (3 * P)
    → (x : ℕ) → leg (bands_of_slot P bands m) x < 3 * P
unfolding b_of j_of k_of
slot_bands P bands m p w h zero = index_below (3 * P) bands (omega arith) w (m / (3 * P) / (3 * P)) (b_lt (3 * P) (length bands) m (omega arith) h)
slot_bands P bands m p w h (suc zero) = j_lt (3 * P) m (omega arith)
slot_bands P bands m p w h (suc (suc x)) = k_lt (3 * P) m (omega arith)

module _ (P S : ℕ) (frequencies : List Float) (g : Legs ℕ) {l l₁ : List Float} {a b : ℕ} (k : SameOutside l l₁ a b) (behind : columns_at P 3 ≤ a) where
  pub leg_is : (x n : ℕ) (e : ℕ) (fr : List Float) → x < 3 → n < 3 * P → e ≡ columns_at P x → fr ≡ part (3 * P) (leg g x) frequencies
      → phonon_in l₁ e (3 * P) fr n ≡ leg_in l P frequencies g x n
  leg_is x n e fr p h ee ef =
      let c : column_in l₁ e (3 * P) n ≡ column_in l (columns_at P x) (3 * P) n =
      ap (λ o. column_in l₁ o (3 * P) n) ee ∙ column_below k (columns_at P x) (3 * P) n (omega (arith, row_le (2 * (3 * P * (3 * P))) p)) h in
      λ i. record { frequency = at (ef i) n; column = c i }

  -- the slots that are not flagged
  pub plain_is : (bands : List ℤ) (flags : List ℕ) (before constants : List Float) (cutoff : Float) (fo : ℕ) {out : List Float} {e : Legs ℕ} {f0 f1 f2 : List Float}
      → 1 ≤ P → all_within (pos 0) (pos (3 * P - 1)) bands ≡ true → constants_in l₁ fo P ≡ constants
      → e ≡ places P (2 * (3 * P * (3 * P)))
      → f0 ≡ part (3 * P) g.leg0 frequencies → f1 ≡ part (3 * P) g.leg1 frequencies → f2 ≡ part (3 * P) g.leg2 frequencies
      → out ≡ table (length bands * (3 * P) * (3 * P)) (λ m. cond (flagged flags m) (at before m) (strength P (constants_in l₁ fo P) (record {
        leg0 = phonon_in l₁ e.leg0 (3 * P) f0 (index (int bands (m / (3 * P) / (3 * P))));
        leg1 = phonon_in l₁ e.leg1 (3 * P) f1 (m / (3 * P) % (3 * P));
        leg2 = phonon_in l₁ e.leg2 (3 * P) f2 (m % (3 * P));
      }) cutoff))
      → out ≡ table (length bands * (3 * P) * (3 * P)) (λ m. cond (flagged flags m) (at before m) (strength P constants (slot_in l P frequencies g bands 0 1 2 m) cutoff))
  plain_is bands flags before constants cutoff fo {e = e} {f0} {f1} {f2} p w ec he i0 i1 i2 r =
      r ∙ table_ext (length bands * (3 * P) * (3 * P)) _ _ (λ m h.
      let n = slot_bands P bands m p w h in
      let at_leg : (x : ℕ) → x < 3 → leg e x ≡ columns_at P x = λ x q. placed P (2 * (3 * P * (3 * P))) he x (leg e x) q refl in
      let u = leg_is 0 (index (int bands (m / (3 * P) / (3 * P)))) e.leg0 f0 (omega arith) (n 0) (at_leg 0 (omega arith)) i0 in
      let v = leg_is 1 (m / (3 * P) % (3 * P)) e.leg1 f1 (omega arith) (n 1) (at_leg 1 (omega arith)) i1 in
      let z = leg_is 2 (m % (3 * P)) e.leg2 f2 (omega arith) (n 2) (at_leg 2 (omega arith)) i2 in
      λ i. cond (flagged flags m) (at before m) (strength P (ec i) (record { leg0 = u i; leg1 = v i; leg2 = z i }) cutoff))

  -- a sixth of one leg order's strength, gathered from the full listing at `to` of l₂
  pub order_gathered : (order : List ℕ) (bands : List ℤ) (flags : List ℕ) (before constants : List Float) (cutoff : Float) (fo so to : ℕ) {out l₂ : List Float} {s e k : Legs ℕ} {f0 f1 f2 : List Float}
      → 1 ≤ P → all_within (pos 0) (pos (3 * P - 1)) bands ≡ true → constants_in l₁ fo P ≡ constants
      → Order order → s ≡ places P (2 * (3 * P * (3 * P))) → e ≡ picked s (get_or order 0 0) (get_or order 1 0) (get_or order 2 0)
      → k ≡ picked g (get_or order 0 0) (get_or order 1 0) (get_or order 2 0)
      → f0 ≡ part (3 * P) k.leg0 frequencies → f1 ≡ part (3 * P) k.leg1 frequencies → f2 ≡ part (3 * P) k.leg2 frequencies
      → WroteAbove l₁ l₂ so (so + 2 * (3 * P * (3 * P)) + 2 * (3 * P)) to (3 * P * (3 * P * (3 * P))) (λ n. strength P (constants_in l₁ fo P) (record {
        leg0 = phonon_in l₁ e.leg0 (3 * P) f0 (n / (3 * P) / (3 * P));
        leg1 = phonon_in l₁ e.leg1 (3 * P) f1 (n / (3 * P) % (3 * P));
        leg2 = phonon_in l₁ e.leg2 (3 * P) f2 (n % (3 * P));
      }) cutoff)
      → out ≡ table (length bands * (3 * P) * (3 * P)) (λ m. cond (flagged flags m) (at before m)
      (at before m ⊕ at l₂ (to + source_place (3 * P) order (index (int bands (m / (3 * P) / (3 * P)))) (m / (3 * P) % (3 * P)) (m % (3 * P))) ⊘ f6))
      → out ≡ table (length bands * (3 * P) * (3 * P)) (λ m. cond (flagged flags m) (at before m)
      (at before m ⊕ strength P constants (slot_in l P frequencies g bands (get_or order 0 0) (get_or order 1 0) (get_or order 2 0) m) cutoff ⊘ f6))
  unfolding b_of j_of k_of
  order_gathered order bands flags before constants cutoff fo so to {l₂ = l₂} {e} {k = k} {f0} {f1} {f2} p w ec o hs he hk i0 i1 i2 listed r =
      r ∙ table_ext (length bands * (3 * P) * (3 * P)) _ _ (λ m h.
      let B : ℕ = 3 * P in
      let n = slot_bands P bands m p w h in
      let x : ℕ = index (int bands (m / B / B)) in
      let y : ℕ = m / B % B in
      let z : ℕ = m % B in
      let c0 = pick_list x y z (get_or order 0 0) o.leg0 in
      let c1 = pick_list x y z (get_or order 1 0) o.leg1 in
      let c2 = pick_list x y z (get_or order 2 0) o.leg2 in
      let n0 : leg (bands_of_slot P bands m) (get_or order 0 0) < B = n (get_or order 0 0) in
      let n1 : leg (bands_of_slot P bands m) (get_or order 1 0) < B = n (get_or order 1 0) in
      let n2 : leg (bands_of_slot P bands m) (get_or order 2 0) < B = n (get_or order 2 0) in
      let sp : ℕ = slot B (leg (bands_of_slot P bands m) (get_or order 0 0)) (leg (bands_of_slot P bands m) (get_or order 1 0)) (leg (bands_of_slot P bands m) (get_or order 2 0)) in
      let es : source_place B order x y z ≡ sp = (λ i. slot B (c0 i) (c1 i) (c2 i)) in
      let room : sp < B * (B * B) = omega (arith, pair_lt (pair_lt n0 n1) n2) in
      let a : at l₂ (to + source_place B order x y z) ≡ strength P (constants_in l₁ fo P) (record { leg0 = phonon_in l₁ e.leg0 B f0 (sp / B / B); leg1 = phonon_in l₁ e.leg1 B f1 (sp / B % B); leg2 = phonon_in l₁ e.leg2 B f2 (sp % B) }) cutoff =
      ap (λ q. at l₂ (to + q)) es ∙ listed.inside sp room in
      let h0 = placed P (2 * (3 * P * (3 * P))) hs (get_or order 0 0) e.leg0 o.leg0 (ap (λ d. d.leg0) he) in
      let h1 = placed P (2 * (3 * P * (3 * P))) hs (get_or order 1 0) e.leg1 o.leg1 (ap (λ d. d.leg1) he) in
      let h2 = placed P (2 * (3 * P * (3 * P))) hs (get_or order 2 0) e.leg2 o.leg2 (ap (λ d. d.leg2) he) in
      let j0 = i0 ∙ ap (λ d. part B d.leg0 frequencies) hk in
      let j1 = i1 ∙ ap (λ d. part B d.leg1 frequencies) hk in
      let j2 = i2 ∙ ap (λ d. part B d.leg2 frequencies) hk in
      let u = ap (phonon_in l₁ e.leg0 B f0) (b_of_lem B n1 n2 (leg (bands_of_slot P bands m) (get_or order 0 0))) ∙ leg_is (get_or order 0 0) _ e.leg0 f0 o.leg0 n0 h0 j0 in
      let v = ap (phonon_in l₁ e.leg1 B f1) (j_of_lem B n1 n2 (leg (bands_of_slot P bands m) (get_or order 0 0))) ∙ leg_is (get_or order 1 0) _ e.leg1 f1 o.leg1 n1 h1 j1 in
      let t = ap (phonon_in l₁ e.leg2 B f2) (k_of_lem B n1 n2 (leg (bands_of_slot P bands m) (get_or order 0 0))) ∙ leg_is (get_or order 2 0) _ e.leg2 f2 o.leg2 n2 h2 j2 in
      ap (λ q. cond (flagged flags m) (at before m) (at before m ⊕ q ⊘ f6)) (a ∙ (λ i. strength P (ec i) (record { leg0 = u i; leg1 = v i; leg2 = t i }) cutoff)))
