-- Each entry is tested, up to the first that fails.
use mathlib.Core.Path.{refl}
use lib.IntN.{pos}
use Rattle.std.proofs.Common.{rules}
use Rattle.std.proofs.lemmas.Iterator.{IsFirst-from_position, YieldsList-from_slice}
use Rattle.phonon.specs.Tests.{within}
use Rattle.checks.proofs.Laws.{Fails, Passes, searched}
use Rattle.checks.proofs.first_outside.Goals as goal

pub returns : goal.returns
returns c =
    let p = within c.args.low c.args.high in
    searched p c.args.s.now (pos 0) refl (λ t k. refl) _
    (IsFirst-from_position _ _ _ (Fails p) (Passes p) c.position.ensures.ran (YieldsList-from_slice c.args.s.now cc) (λ x q k. search rules) (λ x q k. search rules))
