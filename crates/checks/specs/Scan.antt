-- What a scan finds, and where it stands.
use Rattle.std.specs.Prelude.{ℕ, ◌-◌, ◌≤◌, ◌<◌, ◌≡◌, Bool, true, cond, eqb, List, Float, [], length, get_or, Option, None, Some}
use Rattle.phonon.specs.Number.{at}
use Rattle.phonon.specs.Tests.{finite, first_from}

-- the place of the first of n entries that fails the test p, if one does
unfoldable pub first_failing : (ℕ → Bool) → ℕ → Option ℕ
first_failing p n = cond (eqb (first_from p n 0) n) None (Some (first_from p n 0))

-- a scan of n entries for the test p has passed those before i: the first to fail from i on is the first of all
pub record Passed (p : ℕ → Bool) (n i : ℕ) : Type 0 where
  pub inside : i ≤ n
  pub first : first_from p (n - i) i ≡ first_from p n 0

-- sums of n columns: where one is finite, so is each entry of its column
pub record SumsTell (rows : List (List Float)) (n : ℕ) (sums : List Float) : Type 0 where
  pub size : length sums ≡ n
  pub parts : (i j : ℕ) → i < length rows → j < n → finite (at sums j) ≡ true → finite (at (get_or rows i []) j) ≡ true
