-- The test of each block in turn.
use Rattle.std.proofs.Common.{◌/◌, ◌∙◌, arith, rules, length, refl}
use Rattle.std.proofs.lemmas.Iterator.{YieldsList-from_range}
use Rattle.std.proofs.lemmas.Iterator.Search.{all_from_yields_List}
use Rattle.carton.specs.Blocks.{block_ok, blocks_ok}
use Rattle.carton.proofs.Laws.{every_in}
use Rattle.carton.proofs.blocks.blocks_ok.Goals as goal

pub returns : goal.returns
unfolding blocks_ok
returns c =
    let s = c.args.s.now in
    all_from_yields_List (block_ok s) _ _ _ c.all.ensures.ran (YieldsList-from_range 0 (length s / 512) (length s / 512) refl (omega arith)) (λ x b q k. search rules) ∙ every_in (block_ok s) (length s / 512)
