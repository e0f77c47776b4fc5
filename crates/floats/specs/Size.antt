-- A bound on a number's size.
use Rattle.std.specs.Prelude.{ℕ, ◌*◌, ◌≤◌, Float}
use Rattle.std.specs.Float.{nan, inf, fin}
use Rattle.std.specs.Float.Ieee.{up, down}

-- finite, and of magnitude at most K; m * 2 ^ e is m * up e / down e
abbrev pub Within : ℕ → Float → Type 0
Within K nan = ⊥
Within K (inf s) = ⊥
Within K (fin s m e) = m * up e ≤ K * down e
