-- No product wraps, and each field is the definition's.
use mathlib.Core.Path.{refl}
use Rattle.phonon.specs.Limits.{sizes_of}
use Rattle.checks.proofs.sizes.sizes_of.Goals as goal

pub returns : goal.returns
unfolding sizes_of
returns c = rw (c.rows_of-rows.ensures, c.work_length-work.ensures) refl
