-- Regions of a slice of f64: what a function that writes one leaves.
use Rattle.std.specs.Prelude.{◌≡◌, List, ℕ, ◌+◌, ◌<◌, ◌≤◌, length, Float}
use Rattle.phonon.specs.Number.{at}

-- l' is l with the n numbers from index off on replaced by f 0, f 1, .., f (n - 1)
pub record Wrote (l l' : List Float) (off n : ℕ) (f : ℕ → Float) : Type 0 where
  pub size : length l' ≡ length l
  pub inside : (k : ℕ) → k < n → at l' (off + k) ≡ f k
  pub before : (j : ℕ) → j < off → at l' j ≡ at l j
  pub after : (j : ℕ) → off + n ≤ j → at l' j ≡ at l j

-- l' is l but for the indices from a to below b
pub record SameOutside (l l' : List Float) (a b : ℕ) : Type 0 where
  pub size : length l' ≡ length l
  pub before : (j : ℕ) → j < a → at l' j ≡ at l j
  pub after : (j : ℕ) → b ≤ j → at l' j ≡ at l j
