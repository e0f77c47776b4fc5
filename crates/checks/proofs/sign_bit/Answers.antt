-- A NaN, and any other number by the library's test.
use mathlib.Core.Path.{sym, ◌∙◌}
use Rattle.checks.proofs.Laws.{same_sign, nan_sign}
use Rattle.checks.proofs.sign_bit.Goals as goal

pub returns-then-not-is_nan : goal.returns-then-not-is_nan
returns-then-not-is_nan c = c.is_sign_negative.ensures ∙ same_sign c.args.x

pub returns-else-not-is_nan : goal.returns-else-not-is_nan
returns-else-not-is_nan c =
    let none = c.if-not-is_nan.false in
    rw none (nan_sign c.args.x (sym c.is_nan.ensures.value ∙ none))
