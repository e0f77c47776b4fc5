-- The code is the list of tests, written out.
use mathlib.Core.Path.{refl, sym}
use Rattle.phonon.specs.Tests.{all_true, all_true_after}
use Rattle.phonon.specs.Refusal.{table_lengths}
use Rattle.refusals.proofs.tables.lengths_ok.Goals as goal

pub returns : goal.returns
unfolding table_lengths all_true all_true_after
returns c = rw (sym c.sizes_of-z.ensures) refl
