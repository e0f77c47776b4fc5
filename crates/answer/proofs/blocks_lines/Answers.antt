-- The heading is read or wrong, and the file is answered with its set's lines or 12.
use Rattle.std.proofs.Common.{◌∙◌, sym, arith}
use Rattle.carton.proofs.FileLaws.{word_count}
use Rattle.carton.proofs.HeadingLaws.{fitted}
use Rattle.answer.proofs.TextLaws.{answer_12, answer_read}
use Rattle.answer.proofs.blocks_lines.Goals as goal

pub heading_of-requires : goal.heading_of-requires
heading_of-requires c =
    let n = word_count _ c.requires.0 in
    let e = c.read_words.auto.words ∙ c.requires.2 in
    (omega (arith, n, e), omega (arith, n, e))

pub returns-in_default : goal.returns-in_default
returns-in_default c =
    let q = c.requires in
    answer_12 _ q.0 q.1 _ _ c.read_words.ensures c.heading_of.ensures _ c.in_default.is

pub heading_lines-requires : goal.heading_lines-requires
heading_lines-requires c =
    let q = c.requires in
    let n = word_count _ q.0 in
    let e = c.read_words.auto.words ∙ q.2 in
    (fitted _ _ (omega (arith, n, e)) (sym c.in-Ok.is ∙ c.heading_of.ensures), q.3)

pub returns : goal.returns
returns c =
    let q = c.requires in
    c.heading_lines.ensures ∙ answer_read _ q.0 q.1 _ _ c.read_words.ensures c.heading_of.ensures _ c.in-Ok.is
