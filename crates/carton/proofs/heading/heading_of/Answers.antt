-- The tests before the places fail, the words do not match, or each part of the heading is told by a call.
use Rattle.std.proofs.Common.{◌≡◌, ◌∙◌, rules, Result, Err}
use Rattle.phonon.specs.declared.Refusal.{Refusal}
use Rattle.phonon.specs.declared.Refusal.TheVariants as Cause
use Rattle.carton.specs.declared.heading.Heading.{Heading}
use Rattle.checks.proofs.AnswerLaws.{passed, failed}
use Rattle.carton.proofs.HeadingLaws.{compact_bit, averaged_bit, symmetrized_bit, tests_wrong, words_wrong, words_good}
use Rattle.carton.proofs.heading.heading_of.Goals as goal

pub returns-in_err-require : goal.returns-in_err-require
returns-in_err-require c =
    let e : ◌≡◌ {A = Result Heading Refusal} c.from_residual.result (Err c.in_err-require.field-0.0) = search rules in
    let f = failed _ Cause.Heading c.require.ensures c.in_err-require.was in
    (rw f.1 at e) ∙ tests_wrong c.args.words.now _ c.is_small.ensures c.requires.1 f.0

pub returns-in_err-require-2 : goal.returns-in_err-require-2
returns-in_err-require-2 c =
    let e : ◌≡◌ {A = Result Heading Refusal} c.from_residual-in_err-require-2.result (Err c.in_err-require-2.field-0.0) = search rules in
    let f = failed _ Cause.Heading c.require-2.ensures c.in_err-require-2.was in
    (rw f.1 at e)
    ∙ words_wrong c.args.words.now _ c.is_small.ensures (passed _ Cause.Heading c.require.ensures c.in_ok-require.was) _ _ _ (c.choice-form.ensures ∙ compact_bit _)
    c.places_of-p.ensures
    c.words_match.ensures
    f.0

pub returns : goal.returns
returns c =
    words_good c.args.words.now _ c.is_small.ensures (passed _ Cause.Heading c.require.ensures c.in_ok-require.was) _ _ _ (c.choice-form.ensures ∙ compact_bit _)
    c.places_of-p.ensures
    c.words_match.ensures
    _
    _
    (c.choice.ensures ∙ averaged_bit _)
    (c.choice-2.ensures ∙ symmetrized_bit _)
    (passed _ Cause.Heading c.require-2.ensures c.in_ok-require-2.was)
