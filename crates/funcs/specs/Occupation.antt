-- The occupation as the source stores it.
use Rattle.std.specs.Prelude.{cond, Float}
use Rattle.std.specs.Float.Ieee.{lt}
use Rattle.phonon.specs.Number.{bits}
use Rattle.phonon.specs.Funcs.{bose_einstein}

-- -1.0
abbrev pub mark : Float
mark = bits 0xbff0_0000_0000_0000

-- set_occupations, for one band: the occupation where the frequency exceeds the cutoff, else the mark
unfoldable pub marked : Float → Float → Float → Float
marked temperature cutoff frequency = cond (lt cutoff frequency) (bose_einstein frequency temperature) mark
