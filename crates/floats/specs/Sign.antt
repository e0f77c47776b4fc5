-- What it is for a number to have no sign.
use Rattle.std.specs.Prelude.{true, false, Float}
use Rattle.std.specs.Float.{nan, inf, fin}

-- no NaN, and without sign bit
abbrev pub Unsigned : Float → Type 0
Unsigned nan = ⊥
Unsigned (inf true) = ⊥
Unsigned (inf false) = Unit {0}
Unsigned (fin true m e) = ⊥
Unsigned (fin false m e) = Unit {0}
