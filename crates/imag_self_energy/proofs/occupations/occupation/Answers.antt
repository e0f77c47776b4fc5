-- The mark is -1.0.
use lib.Ieee.{neg, of_bits}
use Rattle.imag_self_energy.proofs.Laws.{below}
use Rattle.imag_self_energy.proofs.occupations.occupation.Goals as goal

pub returns : goal.returns
unfolding neg of_bits
returns c = below _ _ _ c.if-cutoff-f.false
