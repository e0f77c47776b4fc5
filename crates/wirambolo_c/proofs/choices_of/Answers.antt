-- Each is known, or one is not.
use mathlib.Core.Path.{refl}
use Rattle.phonon.specs.declared.Anchoring.TheVariants.{Plain, Averaged}
use Rattle.phonon.specs.declared.Form.TheVariants.{Compact, Full}
use Rattle.phonon.specs.declared.Symmetry.TheVariants.{Off, Symmetrized}
use Rattle.wirambolo_c.specs.Foreign.{anchoring_of, form_of, symmetry_of, choices_known}
use Rattle.wirambolo_c.proofs.Laws.{given_two, missing_two}
use Rattle.wirambolo_c.proofs.choices_of.Goals as goal

pub returns-in_err-choice : goal.returns-in_err-choice
unfolding choices_known
returns-in_err-choice c = rw (c.from_residual.ensures, missing_two Plain Averaged c.args.anchoring c.choice.ensures c.in_err-choice.was) refl

pub returns-in_err-choice-2 : goal.returns-in_err-choice-2
unfolding choices_known
returns-in_err-choice-2 c =
    let a = given_two Plain Averaged c.args.anchoring c.choice.ensures c.in_ok-choice.was in
    rw (c.from_residual-in_err-choice-2.ensures, a.0, missing_two Compact Full c.args.form c.choice-2.ensures c.in_err-choice-2.was) refl

pub returns-in_err-choice-3 : goal.returns-in_err-choice-3
unfolding choices_known
returns-in_err-choice-3 c =
    let a = given_two Plain Averaged c.args.anchoring c.choice.ensures c.in_ok-choice.was in
    let f = given_two Compact Full c.args.form c.choice-2.ensures c.in_ok-choice-2.was in
    rw (c.from_residual-in_err-choice-3.ensures, a.0, f.0, missing_two Off Symmetrized c.args.symmetry c.choice-3.ensures c.in_err-choice-3.was) refl

pub returns : goal.returns
unfolding choices_known anchoring_of form_of symmetry_of
returns c =
    let a = given_two Plain Averaged c.args.anchoring c.choice.ensures c.in_ok-choice.was in
    let f = given_two Compact Full c.args.form c.choice-2.ensures c.in_ok-choice-2.was in
    let s = given_two Off Symmetrized c.args.symmetry c.choice-3.ensures c.in_ok-choice-3.was in
    rw (a.0, f.0, s.0, a.1, f.1, s.1) refl
