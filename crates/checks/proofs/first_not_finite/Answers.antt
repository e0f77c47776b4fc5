-- The sums passed the first entries; of those that are left each is tested, up to the first that fails.
use native.Mathlib.Omega.{arith}
use mathlib.Core.Path.{◌≡◌, sym, ap, ◌∙◌}
use lib.Ieee.{nan}
use lib.ListN.{drop}
use Rattle.std.specs.Prelude.{option_map, ◌+◌, length}
use Rattle.std.proofs.Common.{rules}
use Rattle.std.proofs.lemmas.List.{length-drop, get_or-drop}
use Rattle.std.proofs.lemmas.Slice.{between_to_end}
use Rattle.std.proofs.lemmas.Iterator.{IsFirst-from_position, YieldsList-from_slice}
use Rattle.phonon.specs.Number.{at}
use Rattle.phonon.specs.Tests.{finite}
use Rattle.checks.specs.Scan.{first_failing}
use Rattle.checks.proofs.Laws.{Fails, Passes, searched_from}
use Rattle.checks.proofs.first_not_finite.Goals as goal
use Rattle.checks.proofs.first_not_finite.Goals.{After-position}

found : (c : After-position) → option_map (λ m. c.summed_sixteens-i.result + m) c.position.result ≡ first_failing (λ k. finite (at c.args.s.now k)) (length c.args.s.now)
found c =
    let s = c.args.s.now in
    let i = c.summed_sixteens-i.result in
    let size = length-drop i s in
    searched_from finite (drop i s) nan c.summed_sixteens-i.ensures (omega (arith, size, c.summed_sixteens-i.ensures.inside)) (λ t k. sym (ap finite (get_or-drop i s t nan))) _
    (IsFirst-from_position _ _ _ (Fails finite) (Passes finite) c.position.ensures.ran (YieldsList-from_slice (drop i s) (c.iter.ensures.rest ∙ between_to_end s i _ (omega arith))) (λ x q k. search rules) (λ x q k. search rules))

pub returns-in_err-n : goal.returns-in_err-n
returns-in_err-n c = c.from_residual.ensures ∙ rw c.in_err-n.was at (found (goal.at.returns-in_err-n c).After-position)

pub returns : goal.returns
returns c = rw c.in_ok-n.was at (found (goal.at.returns c).After-position)
