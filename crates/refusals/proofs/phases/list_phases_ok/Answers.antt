-- Each triplet of the list is tested.
use Prim.Native.Nat.{ℕ}
use mathlib.Core.Bool.{Bool}
use native.Mathlib.Omega.{arith}
use mathlib.Core.Path.{refl, ◌∙◌}
use Rattle.std.proofs.Common.{rules}
use Rattle.std.proofs.lemmas.Iterator.{YieldsList-from_range, serves_from_Range}
use Rattle.std.proofs.lemmas.Iterator.Search.{all_from_yields_List}
use Rattle.phonon.specs.Handed.{tables_of}
use Rattle.phonon.specs.Sets.{part}
use Rattle.checks.proofs.Laws.{all_below}
use Rattle.refusals.specs.Phases.{points_fine}
use Rattle.refusals.proofs.PhaseLaws.{part_readable}
use Rattle.refusals.proofs.phases.list_phases_ok.Goals as goal

pub all-requires-clause-callable : goal.all-requires-clause-callable
all-requires-clause-callable c = serves_from_Range (λ x q r. search rules) (λ x l h. (
  λ κs r g e w b u v. omega (arith, h, c.requires.located.enough),
  λ κs r g e w b u p v. rw p.ensures.0 (part_readable _ c.args.triplets.now x c.requires h),
))

pub returns : goal.returns
returns c =
    let a = c.args in
    let fine : ℕ → Bool = λ t. points_fine (tables_of a.tables.now) (part 3 t a.triplets.now) in
    all_from_yields_List fine _ _ _ c.all.ensures.ran (YieldsList-from_range 0 a.list a.list refl (omega arith)) (λ x b q k. search rules)
    ∙ all_below fine a.list
