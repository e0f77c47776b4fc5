-- The count stands first in an entry, and its first vector behind it.
use Rattle.real_to_reciprocal.proofs.PhaseLaws.{anchor_at}
use Rattle.real_to_reciprocal.proofs.phases.anchor_vector.Goals as goal

pub returns : goal.returns
returns c = anchor_at c.args.np c.args.crystal.now.vectors.now c.args.crystal.now.multiplicity.now c.args.crystal.now.forces.p2s.now c.args.i c.index_at.ensures c.index_at-2.ensures
