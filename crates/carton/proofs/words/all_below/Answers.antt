-- The test of each word in turn.
use Rattle.std.proofs.Common.{ℕ, ◌∙◌, rules}
use lib.Dec.{ltb}
use Rattle.std.proofs.lemmas.Iterator.{YieldsList-from_slice}
use Rattle.std.proofs.lemmas.Iterator.Search.{all_from_yields_List}
use Rattle.carton.specs.Words.{all_below}
use Rattle.carton.proofs.Laws.{every_of}
use Rattle.carton.proofs.words.all_below.Goals as goal

pub returns : goal.returns
unfolding all_below
returns c =
    let a = c.args in
    all_from_yields_List (λ (w : ℕ). ltb w a.limit) _ _ _ c.all.ensures.ran (YieldsList-from_slice a.words.now cc) (λ x b q k. search rules) ∙ every_of (λ (w : ℕ). ltb w a.limit) a.words.now 0
