-- Sums of columns.
use Rattle.std.specs.Prelude.{◌≡◌, ℕ, ◌<◌, length}
use Rattle.phonon.specs.declared.Complex.{Complex}
use Rattle.phonon.specs.Number.{at}
use Rattle.reciprocal_to_normal.specs.declared.columns.Sums.{Sums}

-- the sum of column c
abbrev pub sum_at : {n : ℕ} → Sums n → ℕ → Complex
sum_at t c = record { re = at t.re c; im = at t.im c }

-- the n sums are f 0, f 1, .., f (n - 1)
pub record Summed {n : ℕ} (t : Sums n) (f : ℕ → Complex) : Type 0 where
  pub re_size : length t.re ≡ n
  pub im_size : length t.im ≡ n
  pub sum : (c : ℕ) → c < n → sum_at t c ≡ f c
