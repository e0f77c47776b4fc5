-- funcs.rs: the occupation of a phonon.
use Rattle.std.specs.Prelude.{Float}
use Rattle.phonon.specs.Number.{◌⊖◌, ◌⊘◌, f1}
use Rattle.phonon.specs.Exp.{exp}

-- what bose_einstein divides by: the exponential less one
unfoldable pub excess : Float → Float
excess t = exp t ⊖ f1

-- bose_einstein, of a frequency and a temperature
unfoldable pub bose_einstein : Float → Float → Float
bose_einstein x temperature = f1 ⊘ excess (x ⊘ temperature)
