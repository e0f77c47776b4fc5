-- The region filled block by block, in the order of i, j and k: once all blocks are there, it holds the definition's list.
use mathlib.Core.Path.{◌≡◌, refl, ◌∙◌}
use mathlib.Core.List.{List}
use Prim.Native.Nat.{ℕ, zero, suc, ◌+◌, ◌*◌, ◌/◌, ◌%◌, ◌<◌}
use native.Mathlib.Nat.{div-lt_iff_lt-mul, mod-lt}
use native.Mathlib.Omega.{arith}
use lib.Ieee.{Float}
use Rattle.phonon.specs.declared.Complex.{Complex}
use Rattle.phonon.specs.declared.Anchoring.{Anchoring}
use Rattle.real_to_reciprocal.specs.declared.blocks.FactorPlaces.{FactorPlaces}
use Rattle.phonon.specs.Sets.{Forces}
use Rattle.phonon.specs.RealToReciprocal.{Factors, anchored, reciprocal_entry, reciprocal_from}
use Rattle.phonon.proofs.Laws.{ctable_ext}
use Rattle.planes.specs.Split.{split, Cols}
use Rattle.planes.specs.Layout.{constant_at, constant_entry, constants_in, numbers_in}
use Rattle.real_to_reciprocal.specs.Stored.{Box, Stored, factors_in, FactorsBelow, component_at}
use Rattle.real_to_reciprocal.proofs.StoredLaws.{stored_ext, join0, join1, join2}
use Rattle.real_to_reciprocal.proofs.FactorLaws.{component_outside, anchored_ext, lists_agree}

-- element e of the block of atoms i, j and k, as an entry of the region
component_of : (S : ℕ) (a : Anchoring) (c : Forces) (w : Factors) (i j k x y z : ℕ) → Box (3 * i) (3 * i + 3) (3 * j) (3 * j + 3) (3 * k) (3 * k + 3) x y z → (e : ℕ) → e ≡ x % 3 * 9 + y % 3 * 3 + z % 3
    → anchored S c w i j k (e / 9) (e % 9 / 3) (e % 3) a ≡ component_at S a c w x y z
unfolding component_at
component_of S a c w i j k x y z b e h =
    let ex : i ≡ x / 3 = omega (arith, b.leg0.low, b.leg0.high) in
    let ey : j ≡ y / 3 = omega (arith, b.leg1.low, b.leg1.high) in
    let ez : k ≡ z / 3 = omega (arith, b.leg2.low, b.leg2.high) in
    let el : e / 9 ≡ x % 3 = omega arith in
    let em : e % 9 / 3 ≡ y % 3 = omega arith in
    let en : e % 3 ≡ z % 3 = omega arith in
    rw (ex, ey, ez, el, em, en)

-- where the list has a number, there is an atom
some : (P t : ℕ) → t < P * P * P * 27 → 0 < P
some zero t h = absurd (omega arith)
some (suc P) t h = omega arith

module _ (fo : ℕ) (f : FactorPlaces) (P S : ℕ) (h : FactorsBelow fo f P S) (c : Forces) (a : Anchoring) where
  abbrev pub value_in : List Float → ℕ → ℕ → ℕ → Complex
  value_in l = component_at S a c (factors_in l f P S)

  pub turn_k : {l l₁ l₂ t : List Float} (i j k : ℕ) → i < P → j < P → k < P
      → Stored l l₁ fo P (Box (3 * i) (3 * i + 3) (3 * j) (3 * j + 3) 0 (3 * k)) (value_in l)
      → Cols t 27 (λ e. anchored S c (factors_in l₁ f P S) i j k (e / 9) (e % 9 / 3) (e % 3) a)
      → Stored l₁ l₂ fo P (Box (3 * i) (3 * i + 3) (3 * j) (3 * j + 3) (3 * k) (3 * k + 3)) (λ x y z. split t 0 27 (x % 3 * 9 + y % 3 * 3 + z % 3))
      → Stored l l₂ fo P (Box (3 * i) (3 * i + 3) (3 * j) (3 * j + 3) 0 (3 * (k + 1))) (value_in l)
  turn_k {l} {l₁} {l₂} {t} i j k pi pj pk w s v =
      let q : 3 * k + 3 ≡ 3 * (k + 1) = omega arith in
      join2 (omega arith) (omega arith) w
      (rw q at (stored_ext (value_in l) v (λ x y z b. s.col (x % 3 * 9 + y % 3 * 3 + z % 3) (omega arith)
      ∙ component_of S a c (factors_in l₁ f P S) i j k x y z b (x % 3 * 9 + y % 3 * 3 + z % 3) refl
      ∙ component_outside h w.kept c a x y z (omega (arith, b.leg0.high)) (omega (arith, b.leg1.high)) (omega (arith, b.leg2.high)))))

  pub turn_j : {l l₁ l₂ : List Float} (i j : ℕ) → i < P → j < P
      → Stored l l₁ fo P (Box (3 * i) (3 * i + 3) 0 (3 * j) 0 (3 * P)) (value_in l) → Stored l₁ l₂ fo P (Box (3 * i) (3 * i + 3) (3 * j) (3 * j + 3) 0 (3 * P)) (value_in l₁)
      → Stored l l₂ fo P (Box (3 * i) (3 * i + 3) 0 (3 * (j + 1)) 0 (3 * P)) (value_in l)
  turn_j {l} i j pi pj w v =
      let q : 3 * j + 3 ≡ 3 * (j + 1) = omega arith in
      join1 (omega arith) (omega arith) w
      (rw q at (stored_ext (value_in l) v (λ x y z b. component_outside h w.kept c a x y z (omega (arith, b.leg0.high)) (omega (arith, b.leg1.high)) (omega (arith, b.leg2.high)))))

  pub turn_i : {l l₁ l₂ : List Float} (i : ℕ) → i < P
      → Stored l l₁ fo P (Box 0 (3 * i) 0 (3 * P) 0 (3 * P)) (value_in l) → Stored l₁ l₂ fo P (Box (3 * i) (3 * i + 3) 0 (3 * P) 0 (3 * P)) (value_in l₁)
      → Stored l l₂ fo P (Box 0 (3 * (i + 1)) 0 (3 * P) 0 (3 * P)) (value_in l)
  turn_i {l} i pi w v =
      let q : 3 * i + 3 ≡ 3 * (i + 1) = omega arith in
      join0 (omega arith) (omega arith) w
      (rw q at (stored_ext (value_in l) v (λ x y z b. component_outside h w.kept c a x y z (omega (arith, b.leg0.high)) (omega (arith, b.leg1.high)) (omega (arith, b.leg2.high)))))

  -- entry (x, y, z) of atoms i, j and k, once all is stored
  entry_of : {l l₁ : List Float} → Stored l l₁ fo P (Box 0 (3 * P) 0 (3 * P) 0 (3 * P)) (value_in l) → (i j k x y z : ℕ) → i < P → j < P → k < P → x < 3 → y < 3 → z < 3
      → constant_at l₁ fo P (3 * i + x) (3 * j + y) (3 * k + z) ≡ anchored S c (factors_in l f P S) i j k x y z a
  unfolding component_at
  entry_of w i j k x y z pi pj pk px py pz =
      let ex : (3 * i + x) / 3 ≡ i = omega arith in
      let ey : (3 * j + y) / 3 ≡ j = omega arith in
      let ez : (3 * k + z) / 3 ≡ k = omega arith in
      let el : (3 * i + x) % 3 ≡ x = omega arith in
      let em : (3 * j + y) % 3 ≡ y = omega arith in
      let en : (3 * k + z) % 3 ≡ z = omega arith in
      w.inside (3 * i + x) (3 * j + y) (3 * k + z) (omega arith) (omega arith) (omega arith)
      (record { leg0 = record { low = omega arith; high = omega arith }; leg1 = record { low = omega arith; high = omega arith }; leg2 = record { low = omega arith; high = omega arith } })
      ∙ rw (ex, ey, ez, el, em, en)

  pub all_stored : {l l₁ : List Float} → Stored l l₁ fo P (Box 0 (3 * P) 0 (3 * P) 0 (3 * P)) (value_in l)
      → constants_in l₁ fo P ≡ reciprocal_from P S a c (numbers_in l f.pre P P) (record { leg0 = numbers_in l f.legs.leg0 (P * S) (P * S); leg1 = numbers_in l f.legs.leg1 (P * S) (P * S); leg2 = numbers_in l f.legs.leg2 (P * S) (P * S) })
  unfolding constants_in constant_entry reciprocal_from reciprocal_entry
  all_stored {l} {l₁} w =
      ctable_ext (P * P * P * 27) _ _ (λ t p.
      let o = some P t p in
      let b : t / 27 < P * P * P = omega arith in
      let q : t / 27 / P < P * P = (div-lt_iff_lt-mul o).1 b in
      let i : t / 27 / P / P < P = (div-lt_iff_lt-mul o).1 q in
      let j : t / 27 / P % P < P = mod-lt (t / 27 / P) o in
      let k : t / 27 % P < P = mod-lt (t / 27) o in
      entry_of w (t / 27 / P / P) (t / 27 / P % P) (t / 27 % P) (t % 27 / 9) (t % 27 % 9 / 3) (t % 27 % 3) i j k (omega arith) (omega arith) (omega arith)
      ∙ anchored_ext c (t / 27 / P / P) (t / 27 / P % P) (t / 27 % P) (t % 27 / 9) (t % 27 % 9 / 3) (t % 27 % 3) a (lists_agree l f P S) i j k)
