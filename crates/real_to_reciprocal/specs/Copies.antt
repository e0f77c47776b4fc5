-- Copies of an atom in the supercell: supercell atoms with one entry of s2p. Each names the next, so that a sum over copies passes no other atom.
use Rattle.std.specs.Prelude.{◌≡◌, List, ℕ, ◌+◌, ◌<◌, ◌≤◌, ℤ, length, get_or, Option, None, Some}
use Rattle.phonon.specs.Number.{index, int}

-- r is the first copy of supercell atom y from `from` on, among the first S, or S where there is none
pub record FirstCopy (s2p : List ℤ) (S y from r : ℕ) : Type 0 where
  pub above : from ≤ r
  pub within : r ≤ S
  pub passed : (k : ℕ) → from ≤ k → k < r → index (int s2p k) ≡ y → ⊥
  pub copy : r < S → index (int s2p r) ≡ y

-- a copy among the first S, or S where there is none
abbrev pub place : ℕ → Option ℕ → ℕ
place S (Some k) = k
place S None = S

-- o is the first copy of supercell atom y from `from` on, among the first S, if there is one
abbrev pub NextCopy : List ℤ → ℕ → ℕ → ℕ → Option ℕ → Type 0
NextCopy s2p S y from (Some k) = FirstCopy s2p S y from k × (k < S)
NextCopy s2p S y from None = FirstCopy s2p S y from S

-- the first copy of each of P atoms
pub record FirstCopies (P S : ℕ) (p2s s2p : List ℤ) (first : List ℕ) : Type 0 where
  pub size : P ≤ length first
  pub copies : (a : ℕ) → a < P → FirstCopy s2p S (index (int p2s a)) 0 (get_or first a 0)

-- the next copy, after supercell atom k, of what k is a copy of
pub record LaterCopies (S : ℕ) (s2p : List ℤ) (later : List ℕ) : Type 0 where
  pub size : S ≤ length later
  pub copies : (k : ℕ) → k < S → FirstCopy s2p S (index (int s2p k)) (k + 1) (get_or later k 0)
