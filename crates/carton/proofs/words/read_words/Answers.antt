-- A table that is filled entry by entry.
use Rattle.planes.proofs.FilledLaws.{filled_none, filled_more, filled_whole}
use Rattle.carton.specs.Words.{words_of}
use native.Mathlib.Omega.{arith}
use Rattle.carton.proofs.words.read_words.Goals as goal

pub loop-w-init : goal.loop-w-init
loop-w-init c = let e = c.requires in (e, filled_none e)

pub loop-w-preserved : goal.loop-w-preserved
loop-w-preserved c = let d = c.loop-w.invariant in (d.0, filled_more (omega arith) c.word_at.ensures d.1)

pub returns : goal.returns
unfolding words_of
returns c = filled_whole (omega arith) c.loop-w.invariant.1
