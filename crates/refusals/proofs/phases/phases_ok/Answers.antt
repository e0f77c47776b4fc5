-- The calls told the tests of the legs and of their orders, at the q of the three points.
use Rattle.phonon.specs.Handed.{tables_of}
use Rattle.refusals.proofs.PhaseLaws.{phases_told}
use Rattle.refusals.proofs.phases.phases_ok.Goals as goal

pub returns : goal.returns
returns c = phases_told (tables_of c.args.tables.now) c.args.points.now c.legs_at-q.ensures c.legs_phases_ok.ensures c.orders_ok.ensures
