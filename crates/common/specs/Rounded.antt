-- What the root's digits are: a whole number nearest to a root.
use Rattle.std.specs.Prelude.{ℕ, ◌+◌, ◌*◌, ◌<◌, ◌≤◌}

-- t is the whole number nearest to the root of M: t - 1/2 < √M < t + 1/2, that is t * t - t < M ≤ t * t + t. There is never a tie.
pub record Rounded (M t : ℕ) : Type 0 where
  pub above : t * t < M + t
  pub below : M ≤ t * t + t
