-- Three complex arrays of one slice, one behind the other, which are written side by side.
use Rattle.std.specs.Prelude.{◌≡◌, List, ℕ, ◌+◌, ◌*◌, ◌<◌, ◌≤◌, length, Float}
use Rattle.phonon.specs.declared.Complex.{Complex}
use Rattle.phonon.specs.Number.{at}
use Rattle.planes.specs.Split.{split}

-- where array x begins, of arrays whose planes have d numbers each, from a on
abbrev pub array_at : ℕ → ℕ → ℕ → ℕ
array_at a d x = a + x * (2 * d)

-- l' is l with the numbers from m to below n of each array x replaced by those of f x. Nothing is said of the arrays' later numbers.
pub record WroteThree (l l' : List Float) (a d m n : ℕ) (f : ℕ → ℕ → Complex) : Type 0 where
  pub size : length l' ≡ length l
  pub inside : (x k : ℕ) → x < 3 → m ≤ k → k < n → split l' (array_at a d x) d k ≡ f x k
  pub stays : (x k : ℕ) → x < 3 → k < m → split l' (array_at a d x) d k ≡ split l (array_at a d x) d k
  pub before : (j : ℕ) → j < a → at l' j ≡ at l j
  pub after : (j : ℕ) → array_at a d 3 ≤ j → at l' j ≡ at l j
