-- The code is the test.
use mathlib.Core.Path.{refl}
use lib.Ieee.{of_bits, of_int, neg}
use Rattle.phonon.specs.Trig.{in_domain}
use Rattle.funcs.proofs.in_domain.Goals as goal

pub returns : goal.returns
unfolding in_domain of_bits of_int neg
returns c = refl
