-- The turn of one pair of supercell atoms in the sum of one element, and sums beside which a pair may wait to be added.
use Rattle.std.specs.Prelude.{◌≡◌, ⊤, not, ◌&&◌, cond, List, ℕ, ◌+◌, ◌*◌, ◌<◌, ◌≤◌, length, Float, Option, None, Some}
use Rattle.phonon.specs.declared.Complex.{Complex}
use Rattle.phonon.specs.declared.Leg.{Leg}
use Rattle.phonon.specs.Number.{at, flagged}
use Rattle.phonon.specs.Common.{cadd, cmul, scale}
use Rattle.phonon.specs.RealToReciprocal.{passes, entry, term}
use Rattle.planes.specs.Split.{split}
use Rattle.real_to_reciprocal.specs.declared.elements.Block.{Block}

-- t and the term of supercell atoms j and k, copies of the second and the third atom; row is the first atom's row of the force constants
unfoldable pub pair_step : List ℕ → List ℕ → List Float → Leg → (ℕ → Complex) → (ℕ → Complex) → ℕ → ℕ → ℕ → ℕ → ℕ → ℕ → Complex → Complex
pair_step shortest nonzero constants g p r S i row j k e t =
    cond (not (passes g (flagged shortest (entry S i j k))) && flagged nonzero (entry S row j k))
    (cadd t (term g (flagged shortest (entry S i j k)) (cmul (p (i * S + j)) (r (i * S + k))) (at constants (entry S row j k * 27 + e)))) t

-- the block's 27 force constants are there
abbrev pub BlockIn : List Float → Block → Type 0
BlockIn constants b = b.base + 27 ≤ length constants

-- s, the sum of element e, with a block
abbrev pub with_block : List Float → Block → ℕ → Complex → Complex
with_block constants b e s = cadd s (scale b.z (at constants (b.base + e)))

-- the same with the block that waits, if one does
abbrev pub with_held : List Float → Option Block → ℕ → Complex → Complex
with_held constants (Some b) e s = with_block constants b e s
with_held constants None e s = s

-- the block that waits, if one does, is there
abbrev pub HeldIn : List Float → Option Block → Type 0
HeldIn constants (Some b) = BlockIn constants b
HeldIn constants None = ⊤

-- the 27 sums of t are f 0, f 1, .., f 26, once the block that waits is added
pub record Settled (constants t : List Float) (h : Option Block) (f : ℕ → Complex) : Type 0 where
  pub size : length t ≡ 54
  pub room : HeldIn constants h
  pub sum : (e : ℕ) → e < 27 → with_held constants h e (split t 0 27 e) ≡ f e
