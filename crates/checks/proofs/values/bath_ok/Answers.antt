-- Each call told one of the tests.
use mathlib.Core.Path.{◌≡◌, refl}
use lib.IntN.{ℤ}
use mir.Val.{to_z, of_z}
use mir.Syntax.{w64}
use Rattle.phonon.specs.Tests.{all_true, all_true_after}
use Rattle.phonon.specs.Refusal.{bath_ok}
use borrow.Author.Rules.{rules}
use Rattle.checks.proofs.values.bath_ok.Goals as goal

pub returns : goal.returns
unfolding bath_ok all_true all_true_after
returns c =
    let z : ℤ = c.args.bath.weight in
    let weight : to_z w64 (of_z w64 z) ≡ z = search rules in
    rw (rw weight at c.is_within.ensures, c.sign_bit.ensures) refl
