-- What a slot gathers, and that its number lies in the listing.
use mathlib.Core.Path.{◌≡◌, ap, ◌∙◌}
use mathlib.Core.List.{List, [], ◌∷◌}
use Prim.Native.Nat.{ℕ, zero, suc, ◌+◌, ◌*◌, ◌<◌, ◌≤◌}
use native.Mathlib.Nat.{mul_assoc, mul-le-mul}
use native.Mathlib.Omega.{arith}
use lib.ListN.{get_or}
use lib.Ieee.{Float}
use Rattle.phonon.specs.Number.{◌⊕◌, ◌⊘◌, f6, at}
use Rattle.phonon.specs.Sets.{slot}
use Rattle.phonon.proofs.Laws.{pair_lt}
use Rattle.reciprocal_to_normal.specs.Slots.{b_of, j_of, k_of}
use Rattle.reciprocal_to_normal.specs.Listing.{source_place, gathered}
use Rattle.reciprocal_to_normal.proofs.SlotLaws.{j_of_lem, k_of_lem}

module _ {B x y z : ℕ} (px : x < B) (py : y < B) (pz : z < B) where
  pub pick_lt : (i : ℕ) → i < 3 → get_or (x ∷ y ∷ z ∷ []) i 0 < B
  pick_lt zero h = px
  pick_lt (suc zero) h = py
  pick_lt (suc (suc zero)) h = pz
  pick_lt (suc (suc (suc i))) h = absurd (omega arith)

  pub place_lt : (order : List ℕ) → get_or order 0 0 < 3 → get_or order 1 0 < 3 → get_or order 2 0 < 3 → source_place B order x y z < B * (B * B)
  place_lt order p q r =
      let h = pair_lt {n = B * B} (pair_lt {n = B} (pick_lt _ p) (pick_lt _ q)) (pick_lt _ r) in
      let e = mul_assoc B B B in
      omega arith

-- the sums that make the place are small
pub sums_small : {B a b c : ℕ} → B ≤ 3000 → a < B → b < B → c < B → (a * B ≤ 9000000) × (a * B + b ≤ 9000000) × ((a * B + b) * B ≤ 27000000000) × ((a * B + b) * B + c ≤ 27000000000)
sums_small {B} {a} {b} {c} h pa pb pc =
    let u = pair_lt pa pb in
    let v = pair_lt u pc in
    let s = mul-le-mul h h in
    let t = mul-le-mul s h in
    (omega arith, omega arith, omega arith, omega arith)

module _ (l : List Float) (to B : ℕ) (order : List ℕ) where
  -- slot (b, j, k)
  pub slot_gathered : (n b j k m : ℕ) → j < B → k < B → m ≡ slot B b j k → {old old' : Float} (p : ℕ) → old ≡ old' → p ≡ source_place B order n j k
      → old ⊕ at l (to + p) ⊘ f6 ≡ gathered l to B order (λ i. n) old' m
  unfolding gathered
  slot_gathered n b j k m pj pk e p eo ep =
      let ej : j_of B m ≡ j = ap (j_of B) e ∙ j_of_lem B pj pk b in
      let ek : k_of B m ≡ k = ap (k_of B) e ∙ k_of_lem B pj pk b in
      rw (eo, ep, ej, ek)

  pub band_gathered : (n b m : ℕ) (band : ℕ → ℕ) (old : Float) → n ≡ band b → b_of B m ≡ b → gathered l to B order (λ i. n) old m ≡ gathered l to B order band old m
  unfolding gathered
  band_gathered n b m band old e eb = rw (eb, e)
