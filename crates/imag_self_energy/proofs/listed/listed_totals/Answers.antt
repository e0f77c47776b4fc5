-- The bands that are held are those of the legs, and the walks over the pairs that are listed are the totals.
use mathlib.Core.Path.{refl, ◌∙◌}
use Rattle.imag_self_energy.proofs.ListLaws.{listed_totals_are}
use Rattle.imag_self_energy.proofs.listed.listed_totals.Goals as goal

pub returns : goal.returns
returns g c =
    let b = c.later_bands-later.ensures in
    listed_totals_are c.args.slots.now _ _ _ _ _ (b.2 ∙ c.requires.5) c.requires.0 c.list_pairs-count.ensures.1 c.fill_factors.ensures c.fill_totals.ensures
    ∙ rw (b.0, b.1) refl
