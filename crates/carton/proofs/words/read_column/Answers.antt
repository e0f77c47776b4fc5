-- A table that is filled entry by entry.
use Rattle.planes.proofs.FilledLaws.{filled_none, filled_more}
use native.Mathlib.Omega.{arith}
use Rattle.carton.proofs.words.read_column.Goals as goal

pub loop-k-init : goal.loop-k-init
loop-k-init g c = (c.requires, filled_none c.requires)

pub loop-k-preserved : goal.loop-k-preserved
loop-k-preserved g c = let d = c.loop-k.invariant in (d.0, filled_more (omega arith) c.from_word.ensures d.1)
