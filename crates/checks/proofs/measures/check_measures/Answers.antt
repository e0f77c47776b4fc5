-- The test of the measures picks the case.
use mathlib.Core.Bool.{true, false}
use mathlib.Core.Path.{◌≡◌, refl, sym, ◌∙◌}
use Rattle.phonon.specs.Refusal.{measures_ok}
use Rattle.checks.specs.Answers.{measured_of}
use Rattle.checks.proofs.AnswerLaws.{passed, failed, handed_on}
use Rattle.checks.proofs.measures.check_measures.Goals as goal

pub returns-in_err-require : goal.returns-in_err-require
unfolding measured_of
returns-in_err-require c =
    let f = failed _ _ c.require.ensures c.in_err-require.was in
    let e : measures_ok c.args.m ≡ false = sym c.measures_ok.ensures ∙ f.0 in
    handed_on _ c.from_residual.ensures.1 ∙ rw (e, f.1) refl

pub returns : goal.returns
unfolding measured_of
returns c =
    let e : measures_ok c.args.m ≡ true = sym c.measures_ok.ensures ∙ passed _ _ c.require.ensures c.in_ok-require.was in
    rw (e, c.sizes_of.ensures) refl
