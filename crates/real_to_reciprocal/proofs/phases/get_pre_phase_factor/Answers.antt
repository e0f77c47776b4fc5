-- The pre-factor of an atom: its first vector, and the phase there.
use Rattle.real_to_reciprocal.proofs.PhaseLaws.{pre_factor_at}
use Rattle.real_to_reciprocal.proofs.phases.get_pre_phase_factor.Goals as goal

pub returns : goal.returns
returns c = pre_factor_at _ _ _ _ _ _ c.anchor_vector.ensures c.pre_phase.ensures c.cis.ensures
