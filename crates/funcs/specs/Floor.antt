-- In what sense the definition's `floor` is the greatest whole number not above.
use Rattle.std.specs.Prelude.{true, false, suc, ◌+◌, ◌*◌, ◌≤◌, ℤ, pos, negsuc, Float}
use Rattle.std.specs.Float.{nan, inf, fin}
use Rattle.std.specs.Float.Ieee.{up, down}

-- the whole number z is at most the finite y; m * 2 ^ e is m * up e / down e
abbrev pub AtMost : ℤ → Float → Type 0
AtMost z nan = ⊥
AtMost z (inf s) = ⊥
AtMost (pos n) (fin false m e) = n * down e ≤ m * up e
AtMost (pos n) (fin true m e) = n * down e + m * up e ≤ 0
AtMost (negsuc n) (fin false m e) = Unit
AtMost (negsuc n) (fin true m e) = m * up e ≤ suc n * down e
