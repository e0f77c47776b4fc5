-- Size, then blocks, then words: each test tells the text.
use Rattle.std.proofs.Common.{◌≡◌, ◌∙◌, sym, ap, arith, rules, Result, Err}
use Rattle.phonon.specs.declared.Refusal.{Refusal}
use Rattle.phonon.specs.declared.Refusal.TheVariants as Cause
use lib.Seq.{length-take-le}
use Rattle.carton.proofs.FileLaws.{word_count}
use Rattle.checks.proofs.AnswerLaws.{failed, passed}
use Rattle.answer.specs.Printed.{printed}
use Rattle.answer.proofs.TextLaws.{answer_10, answer_11}
use Rattle.answer.proofs.lines_of.Goals as goal

pub returns-in_err-require : goal.returns-in_err-require
returns-in_err-require c =
    let e : ◌≡◌ {A = Result Unit Refusal} c.from_residual.result (Err c.in_err-require.field-0.0) = search rules in
    let f = failed _ Cause.File c.require.ensures c.in_err-require.was in
    ap (λ r. printed r c.args.text.now) (rw f.1 at e) ∙ answer_10 _ (sym c.size_ok.ensures ∙ f.0)

pub returns-in_err-require-2 : goal.returns-in_err-require-2
returns-in_err-require-2 c =
    let e : ◌≡◌ {A = Result Unit Refusal} c.from_residual-in_err-require-2.result (Err c.in_err-require-2.field-0.0) = search rules in
    let f = failed _ Cause.Block c.require-2.ensures c.in_err-require-2.was in
    ap (λ r. printed r c.args.text.now) (rw f.1 at e) ∙ answer_11 _ (sym c.size_ok.ensures ∙ passed _ Cause.File c.require.ensures c.in_ok-require.was) (sym c.blocks_ok.ensures ∙ f.0)

pub slice_bounds-words-end : goal.slice_bounds-words-end
slice_bounds-words-end c =
    let size = sym c.size_ok.ensures ∙ passed _ Cause.File c.require.ensures c.in_ok-require.was in
    omega (arith, word_count _ size, c.repeat-words.ensures.items.long)

pub slice_bounds-blocks_lines-end : goal.slice_bounds-blocks_lines-end
slice_bounds-blocks_lines-end c =
    let size = sym c.size_ok.ensures ∙ passed _ Cause.File c.require.ensures c.in_ok-require.was in
    sym (length-take-le _ _ (omega (arith, word_count _ size, c.repeat-words.ensures.items.long)))

pub blocks_lines-requires : goal.blocks_lines-requires
blocks_lines-requires c =
    let size = sym c.size_ok.ensures ∙ passed _ Cause.File c.require.ensures c.in_ok-require.was in
    let blocks = sym c.blocks_ok.ensures ∙ passed _ Cause.Block c.require-2.ensures c.in_ok-require-2.was in
    (size, blocks, length-take-le _ _ (omega (arith, word_count _ size, c.repeat-words.ensures.items.long)), c.requires)
