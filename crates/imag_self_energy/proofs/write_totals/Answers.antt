-- The legs are the points' stretches of the frequencies, and the weight is cast once: the sums of their bands are the definition's totals.
use mathlib.Core.Path.{◌≡◌, ap, ◌∙◌}
use borrow.Author.Rules.{rules}
use lib.ListN.{length}
use mir.ValLaws.{to_z-of_z}
use mir.Syntax.{w64}
use Rattle.phonon.specs.Number.{index, float, int, table}
use Rattle.phonon.specs.ImagSelfEnergy.{block, totals}
use Rattle.imag_self_energy.specs.declared.Shared.{Shared}
use Rattle.imag_self_energy.specs.Bands.{leg_bands, band_total}
use Rattle.imag_self_energy.specs.Totals.{sum_of}
use Rattle.imag_self_energy.proofs.Laws.{totals_are}
use Rattle.imag_self_energy.proofs.write_totals.Goals as goal
use Rattle.imag_self_energy.proofs.write_totals.Goals.{After-float_of}

-- the grid points as numbers
point1 : (c : After-float_of) → c.index_of-g1.result ≡ index (int c.args.sum.now.points 1)
point1 c = rw (to_z-of_z w64 (int c.args.sum.now.points 1) (search rules)) at c.index_of-g1.ensures

point2 : (c : After-float_of) → c.index_of-g2.result ≡ index (int c.args.sum.now.points 2)
point2 c = rw (to_z-of_z w64 (int c.args.sum.now.points 2) (search rules)) at c.index_of-g2.ensures

-- what all slots share
abbrev shared : After-float_of → Shared
shared c = record { temperature = c.args.sum.now.bath.temperature; cutoff = c.args.sum.now.cutoff; weight = c.float_of.result }

-- from the bands of the legs to the definition
legs_told :
    (c : After-float_of)
    → table (length c.args.totals.now)
    (λ b. band_total (shared c) c.args.sum.now.bands (block c.args.sum.now.weights b) b (leg_bands (shared c) c.part_of-leg1.result.now) (leg_bands (shared c) c.part_of-leg2.result.now) c.args.sum.now.flags.now c.args.sum.now.integration.first.now c.args.sum.now.integration.second.now c.args.strengths.now)
    ≡ totals (length c.args.totals.now) (sum_of c.args.sum.now) c.args.sum.now.bath.temperature c.args.strengths.now
legs_told c =
    let one = c.part_of-leg1.ensures in
    let two = c.part_of-leg2.ensures in
    totals_are (sum_of c.args.sum.now) _ _ _ _
    (rw (point1 c) at one.0) one.1
    (rw (point2 c) at two.0) two.1
    _ _ (c.float_of.ensures ∙ ap float (search rules))

pub returns-then-sum-le-PLAIN_BANDS : goal.returns-then-sum-le-PLAIN_BANDS
returns-then-sum-le-PLAIN_BANDS c = c.plain_totals.ensures ∙ legs_told (goal.at.returns-then-sum-le-PLAIN_BANDS c).After-float_of

pub returns-then-sum-le-FEW_BANDS : goal.returns-then-sum-le-FEW_BANDS
returns-then-sum-le-FEW_BANDS c = c.listed_totals.ensures ∙ legs_told (goal.at.returns-then-sum-le-FEW_BANDS c).After-float_of

pub returns-else-sum-le-FEW_BANDS : goal.returns-else-sum-le-FEW_BANDS
returns-else-sum-le-FEW_BANDS c = c.listed_totals-else-sum-le-FEW_BANDS.ensures ∙ legs_told (goal.at.returns-else-sum-le-FEW_BANDS c).After-float_of
