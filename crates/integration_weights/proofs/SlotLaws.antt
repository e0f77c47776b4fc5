-- Slots that are filled from the first on, in all three slices at once: one more, a part more, and all. Then what they are in a row, a block and the whole.
use Prim.Native.Nat.{ℕ, ◌+◌, ◌-◌, ◌*◌, ◌<◌, ◌≤◌}
use native.Mathlib.Omega.{arith}
use mathlib.Core.Path.{◌≡◌, refl, ap, ◌∙◌}
use mathlib.Core.List.{List}
use borrow.Rule.Slice.PartMut.{put_mid}
use lib.IntN.{ℤ}
use lib.Ieee.{Float}
use lib.ListN.{length, set}
use Rattle.phonon.specs.Number.{◌⊕◌, ◌⊖◌, index, at, int}
use Rattle.phonon.proofs.Laws.{table_ext, div_of, mod_of}
use Rattle.planes.proofs.FilledLaws.{Filled, filled_none, filled_more, filled_part, filled_whole}
use Rattle.integration_weights.specs.declared.Shape.{Shape}
use Rattle.integration_weights.specs.Shapes.{shape_at}
use Rattle.integration_weights.specs.Weights.{SlotWeights, flag_of}
use Rattle.integration_weights.specs.Rows.{SameLength, Written, row_slot, block_slot, slot_in}
use Rattle.integration_weights.proofs.ShapeLaws.{first_is, second_is, flag_is}

-- the first i of the slots f 0, .., f (n - 1) are written
pub record Slots (f : ℕ → SlotWeights) (n i : ℕ) (a b : List Float) (c : List ℕ) : Type 0 where
  pub first : Filled (λ p. (f p).first) n a i
  pub second : Filled (λ p. (f p).second) n b i
  pub flags : Filled (λ p. (f p).flag) n c i

module _ (f : ℕ → SlotWeights) (n : ℕ) where
  pub slots_none : {a b : List Float} {c : List ℕ} → SameLength n (length a) (length b) (length c) → Slots f n 0 a b c
  slots_none h = record { first = filled_none h.first; second = filled_none h.second; flags = filled_none h.flags }

  module _ {i : ℕ} {a b : List Float} {c : List ℕ} (d : Slots f n i a b c) where
    -- a part more: the slots g 0, .., g (m - 1), which were written in parts that were lent
    pub slots_part : (m : ℕ) (g : ℕ → SlotWeights) {x y : List Float} {z : List ℕ} → i + m ≤ n → ((k : ℕ) → k < m → g k ≡ f (i + k)) → Written g m x y z
        → Slots f n (i + m) (put_mid i (i + m - i) a x) (put_mid i (i + m - i) b y) (put_mid i (i + m - i) c z)
    slots_part m g h e w =
        record {
          first = filled_part m h (w.first ∙ table_ext m _ _ (λ k l. ap (λ v. v.first) (e k l))) d.first;
          second = filled_part m h (w.second ∙ table_ext m _ _ (λ k l. ap (λ v. v.second) (e k l))) d.second;
          flags = filled_part m h (w.flags ∙ table_ext m _ _ (λ k l. ap (λ v. v.flag) (e k l))) d.flags;
        }

    -- by another count of them
    pub slots_at : {j : ℕ} → i ≡ j → Slots f n j a b c
    slots_at e = rw e at d

    pub slots_all : n ≤ i → Written f n a b c
    slots_all h = record { first = filled_whole h d.first; second = filled_whole h d.second; flags = filled_whole h d.flags }

-- ---- a row

module _ (s : Shape) (x y : Float) (leg : List Float) where
  -- the values p, q and r of the shape at slot k
  pub record Values (k : ℕ) (p q r : Float) : Type 0 where
    pub one : p ≡ shape_at s (x ⊖ y ⊖ at leg k)
    pub two : q ≡ shape_at s (x ⊕ y ⊖ at leg k)
    pub three : r ≡ shape_at s (x ⊖ y ⊕ at leg k)

  abbrev pub Row : ℕ → List Float → List Float → List ℕ → Type 0
  Row k a b c = Slots (row_slot s x y leg) (length leg) k a b c

  -- one slot more
  pub row_one : {k : ℕ} {a b : List Float} {c : List ℕ} {p q r : Float} {a' b' : List Float} {c' : List ℕ} → Row k a b c → k < length leg → Values k p q r
      → a' ≡ set a k p → b' ≡ set b k (q ⊖ r) → c' ≡ set c k (flag_of p q r) → Row (k + 1) a' b' c'
  row_one {k} d h v ea eb ec =
      let z = at leg k in
      record {
        first = rw ea (filled_more h (first_is s x y z v.one v.two v.three) d.first);
        second = rw eb (filled_more h (second_is s x y z v.one v.two v.three) d.second);
        flags = rw ec (filled_more h (flag_is s x y z v.one v.two v.three refl) d.flags);
      }

  -- two
  pub row_two : {k : ℕ} {a b : List Float} {c : List ℕ} {p q r p' q' r' : Float} {a' b' : List Float} {c' : List ℕ} → Row k a b c → k + 1 < length leg → Values k p q r → Values (k + 1) p' q' r'
      → a' ≡ set (set a k p) (k + 1) p' → b' ≡ set (set b k (q ⊖ r)) (k + 1) (q' ⊖ r') → c' ≡ set (set c k (flag_of p q r)) (k + 1) (flag_of p' q' r') → Row (k + 2) a' b' c'
  row_two {k} d h v w ea eb ec =
      let e : k + 1 + 1 ≡ k + 2 = omega arith in
      rw e at (row_one (row_one d (omega arith) v refl refl refl) h w ea eb ec)

-- ---- a block of rows, and the blocks

-- slot k of row j
pub in_block : (s : Shape) (x : Float) (leg1 leg2 : List Float) (j k : ℕ) → k < length leg2 → row_slot s x (at leg1 j) leg2 k ≡ block_slot s x leg1 leg2 (j * length leg2 + k)
in_block s x leg1 leg2 j k h = rw (div_of (length leg2) h j, mod_of (length leg2) h j) refl

-- slot q of block b, of the band i
pub in_all : (s : Shape) (bands : List ℤ) (leg0 leg1 leg2 : List Float) (b : ℕ) {i : ℕ} → i ≡ index (int bands b) → (q : ℕ) → q < length leg1 * length leg2
    → block_slot s (at leg0 i) leg1 leg2 q ≡ slot_in s bands leg0 leg1 leg2 (b * (length leg1 * length leg2) + q)
in_all s bands leg0 leg1 leg2 b e q h = rw (div_of (length leg1 * length leg2) h b, mod_of (length leg1 * length leg2) h b, e) refl
