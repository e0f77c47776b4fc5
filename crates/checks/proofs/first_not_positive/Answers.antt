-- Each entry is tested, up to the first that fails.
use mathlib.Core.Path.{refl}
use mathlib.Core.Bool.{Bool}
use lib.Ieee.{Float, lt, nan}
use Rattle.std.proofs.Common.{rules}
use Rattle.std.proofs.lemmas.Iterator.{IsFirst-from_position, YieldsList-from_slice}
use Rattle.phonon.specs.Number.{f0}
use Rattle.checks.proofs.Laws.{Fails, Passes, searched}
use Rattle.checks.proofs.first_not_positive.Goals as goal

pub returns : goal.returns
returns c =
    let p : Float → Bool = λ x. lt f0 x in
    searched p c.args.s.now nan refl (λ t k. refl) _
    (IsFirst-from_position _ _ _ (Fails p) (Passes p) c.position.ensures.ran (YieldsList-from_slice c.args.s.now cc) (λ x q k. search rules) (λ x q k. search rules))
