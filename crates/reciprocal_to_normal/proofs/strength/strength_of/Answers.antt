-- Each test of a frequency is the one of the definition, in its order.
use Rattle.phonon.specs.ReciprocalToNormal.{squared, any_cut, strength_from}
use Rattle.reciprocal_to_normal.proofs.strength.strength_of.Goals as goal

pub returns-then-x-cutoff : goal.returns-then-x-cutoff
unfolding strength_from any_cut
returns-then-x-cutoff c = rw c.if-x-cutoff.true

pub returns-then-y-cutoff : goal.returns-then-y-cutoff
unfolding strength_from any_cut
returns-then-y-cutoff c = rw (c.if-x-cutoff.false, c.if-y-cutoff.true)

pub returns-then-z-cutoff : goal.returns-then-z-cutoff
unfolding strength_from any_cut
returns-then-z-cutoff c = rw (c.if-x-cutoff.false, c.if-y-cutoff.false, c.if-z-cutoff.true)

pub returns : goal.returns
unfolding strength_from any_cut squared
returns c = rw (c.if-x-cutoff.false, c.if-y-cutoff.false, c.if-z-cutoff.false)
