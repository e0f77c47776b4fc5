-- Two's complement.
use Rattle.std.proofs.Common.{◌≡◌, ◌∙◌, rules, w64}
use mir.Val.{to_z, of_z}
use Rattle.carton.proofs.Laws.{word_is}
use Rattle.carton.proofs.words.I64FromWord.from_word.Goals as goal

pub returns : goal.returns
returns c =
    let e : to_z w64 (of_z w64 c.cast_signed.result) ≡ c.cast_signed.result = search rules in
    e ∙ c.cast_signed.ensures ∙ word_is c.args.w
