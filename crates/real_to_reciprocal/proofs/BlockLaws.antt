-- The 27 numbers of a block: products with pre-factors, and the mean of three legs.
use mathlib.Core.Path.{◌≡◌, ◌∙◌}
use mathlib.Core.List.{List}
use Prim.Native.Nat.{ℕ, ◌+◌, ◌*◌, ◌/◌, ◌%◌}
use native.Mathlib.Omega.{arith}
use lib.Ieee.{Float}
use Rattle.phonon.specs.declared.Complex.{Complex}
use Rattle.phonon.specs.declared.Anchoring.{Anchoring}
use Rattle.phonon.specs.declared.Anchoring.TheVariants.{Plain, Averaged}
use Rattle.phonon.specs.declared.Leg.TheVariants.{Alone, First, Second, Third}
use Rattle.phonon.specs.Common.{czero, cadd, cmul}
use Rattle.phonon.specs.Sets.{Forces}
use Rattle.phonon.specs.RealToReciprocal.{element, Factors, over3, plain_element, averaged_element, anchored}
use Rattle.planes.specs.Split.{split, WroteSplit, Cols}
use Rattle.planes.proofs.ColsLaws.{cols_step, cols_ext}

-- element e of the mean of three legs' numbers
abbrev pub mean_at : List Float → List Float → List Float → ℕ → Complex
mean_at first second third e =
    over3 (cadd (cadd (cadd czero (split first 0 27 e)) (split second 0 27 (e % 9 / 3 * 9 + e / 9 * 3 + e % 3))) (split third 0 27 (e % 3 * 9 + e % 9 / 3 * 3 + e / 9)))

pub mean_of : {t a b c a' b' c' : Complex} → t ≡ over3 (cadd (cadd (cadd czero a) b) c) → a ≡ a' → b ≡ b' → c ≡ c' → t ≡ over3 (cadd (cadd (cadd czero a') b') c')
mean_of h ea eb ec = h ∙ rw (ea, eb, ec)

-- sums times a pre-factor
pub product_of : {t t₁ : List Float} {f : ℕ → Complex} {z y : Complex} → Cols t 27 f → WroteSplit t t₁ 0 27 27 (λ e. cmul (split t 0 27 e) z) → z ≡ y → Cols t₁ 27 (λ e. cmul (f e) y)
product_of s w e = cols_step s w (λ c h q. rw (q, e))

module _ (S : ℕ) (c : Forces) (w : Factors) (i j k : ℕ) where
  pub averaged_of : {r a b d : List Float}
      → Cols a 27 (λ e. cmul (element S c First w.legs.leg1 w.legs.leg2 i j k e) (w.pre i)) → Cols b 27 (λ e. cmul (element S c Second w.legs.leg0 w.legs.leg2 j i k e) (w.pre j))
      → Cols d 27 (λ e. cmul (element S c Third w.legs.leg1 w.legs.leg0 k j i e) (w.pre k)) → WroteSplit a r 0 27 27 (mean_at a b d)
      → Cols r 27 (λ e. averaged_element S c w i j k (e / 9) (e % 9 / 3) (e % 3))
  unfolding averaged_element
  averaged_of sa sb sd v =
      cols_step sa v (λ e h q.
      let p : e / 9 * 9 + e % 9 / 3 * 3 + e % 3 ≡ e = omega arith in
      rw (q, sb.col (e % 9 / 3 * 9 + e / 9 * 3 + e % 3) (omega arith), sd.col (e % 3 * 9 + e % 9 / 3 * 3 + e / 9) (omega arith), p))

  -- the block by its anchoring
  pub plain_block : {r : List Float} (a : Anchoring) → a ≡ Plain → Cols r 27 (λ e. cmul (element S c Alone w.legs.leg1 w.legs.leg2 i j k e) (w.pre i))
      → Cols r 27 (λ e. anchored S c w i j k (e / 9) (e % 9 / 3) (e % 3) a)
  unfolding anchored plain_element
  plain_block a h s = cols_ext s (λ e l. let q : e / 9 * 9 + e % 9 / 3 * 3 + e % 3 ≡ e = omega arith in rw (h, q))

  pub averaged_block : {r : List Float} (a : Anchoring) → a ≡ Averaged → Cols r 27 (λ e. averaged_element S c w i j k (e / 9) (e % 9 / 3) (e % 3))
      → Cols r 27 (λ e. anchored S c w i j k (e / 9) (e % 9 / 3) (e % 3) a)
  unfolding anchored
  averaged_block a h s = cols_ext s (λ e l. rw h)
