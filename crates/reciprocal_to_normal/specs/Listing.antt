-- The full listing of one leg order, and what the slots gather of it.
use Rattle.std.specs.Prelude.{◌≡◌, List, [], ◌∷◌, ℕ, ◌+◌, ◌*◌, ◌<◌, ◌≤◌, length, get_or, Float}
use Rattle.phonon.specs.Number.{◌⊕◌, ◌⊘◌, f6, at}
use Rattle.reciprocal_to_normal.specs.Slots.{b_of, j_of, k_of}

-- l' is l with the n numbers from off on replaced by f 0, f 1, .., f (n - 1), but for scratch from a to below b, which lies below them
pub record WroteAbove (l l' : List Float) (a b off n : ℕ) (f : ℕ → Float) : Type 0 where
  pub size : length l' ≡ length l
  pub inside : (k : ℕ) → k < n → at l' (off + k) ≡ f k
  pub before : (j : ℕ) → j < a → at l' j ≡ at l j
  pub between : (j : ℕ) → b ≤ j → j < off → at l' j ≡ at l j
  pub after : (j : ℕ) → off + n ≤ j → at l' j ≡ at l j

-- the number of the full listing that the slot of bands x, y, z gathers: its bands in the leg order
abbrev pub source_place : ℕ → List ℕ → ℕ → ℕ → ℕ → ℕ
source_place B order x y z =
    (get_or (x ∷ y ∷ z ∷ []) (get_or order 0 0) 0 * B + get_or (x ∷ y ∷ z ∷ []) (get_or order 1 0) 0) * B + get_or (x ∷ y ∷ z ∷ []) (get_or order 2 0) 0

-- an order of the three legs names each by a number below 3
abbrev pub InOrder : List ℕ → Type 0
InOrder order = (get_or order 0 0 < 3) × (get_or order 1 0 < 3) × (get_or order 2 0 < 3)

-- slot n after a sixth of its number is added to `old`; the listing stands at `to` of l, and `band` names the first leg's bands
unfoldable pub gathered : List Float → ℕ → ℕ → List ℕ → (ℕ → ℕ) → Float → ℕ → Float
gathered l to B order band old n = old ⊕ at l (to + source_place B order (band (b_of B n)) (j_of B n) (k_of B n)) ⊘ f6
