-- A set that fails a test is answered with its number and left as it is; one that passes meets what the work requires, and the legs are its points' stretches
-- of the frequencies.
use native.Mathlib.Omega.{arith}
use mathlib.Core.Path.{◌≡◌, sym}
use borrow.Author.Rules.{rules}
use Rattle.phonon.specs.Number.{index, int}
use Rattle.phonon.proofs.Answers.{number_positive}
use Rattle.checks.proofs.AnswerLaws.{handed_on}
use Rattle.integration_weights.specs.Sets.{WeightsSet}
use Rattle.integration_weights.specs.Refusal.{weights_refusal}
use Rattle.integration_weights.proofs.CheckLaws.{leg_is, few, reached_at, band_below, good_shape, real, sized, accepted, refused}
use Rattle.integration_weights.proofs.integration_weights_at_triplet.Goals as goal
use Rattle.integration_weights.proofs.integration_weights_at_triplet.Goals.{After-index_of-g2, In_ok-check}

-- the set, as the contract has it
abbrev handed : In_ok-check → WeightsSet
handed c =
    record {
      measures = c.args.m;
      shape = c.args.shape;
      triplet = c.args.triplet;
      bands = c.args.bands.now;
      frequencies = c.args.frequencies.now;
      first = c.args.first.now;
      second = c.args.second.now;
      flags = c.args.flags.now;
    }

-- it passed
good : (c : In_ok-check) → weights_refusal (handed c) ≡ 0
good c = sym (rw c.in_ok-check.was at c.check.ensures)

-- the grid points as indices
point0 : (c : After-index_of-g2) → c.index_of-g0.result ≡ index (int c.args.triplet 0)
point0 c = search rules

point1 : (c : After-index_of-g2) → c.index_of-g1.result ≡ index (int c.args.triplet 1)
point1 c = search rules

point2 : (c : After-index_of-g2) → c.index_of-g2.result ≡ index (int c.args.triplet 2)
point2 c = search rules

pub returns-in_err-check : goal.returns-in_err-check
returns-in_err-check c = rw (handed_on _ c.from_residual.ensures.1) (refused _ (number_positive _) (rw c.in_err-check.was at c.check.ensures))

pub overflow_mul-n : goal.overflow_mul-n
overflow_mul-n c = let p = (goal.at.overflow_mul-n c).In_ok-check in omega (arith, few (handed p) (good p))

pub part_of-requires : goal.part_of-requires
part_of-requires c = let p = goal.at.part_of-requires c in reached_at (handed p.In_ok-check) (good p.In_ok-check) 0 (point0 p.After-index_of-g2)

pub part_of-requires-2 : goal.part_of-requires-2
part_of-requires-2 c = let p = goal.at.part_of-requires-2 c in reached_at (handed p.In_ok-check) (good p.In_ok-check) 1 (point1 p.After-index_of-g2)

pub part_of-requires-3 : goal.part_of-requires-3
part_of-requires-3 c = let p = goal.at.part_of-requires-3 c in reached_at (handed p.In_ok-check) (good p.In_ok-check) 2 (point2 p.After-index_of-g2)

pub fill_weights-requires : goal.fill_weights-requires
fill_weights-requires c =
    let p = goal.at.fill_weights-requires c in
    let g = good p.In_ok-check in
    let s = handed p.In_ok-check in
    let l0 = c.part_of.ensures.1 in
    let l1 = c.part_of-2.ensures.1 in
    let l2 = c.part_of-3.ensures.1 in
    let e0 = leg_is s 0 (point0 p.After-index_of-g2) c.part_of.ensures.0 in
    let e1 = leg_is s 1 (point1 p.After-index_of-g2) c.part_of-2.ensures.0 in
    let e2 = leg_is s 2 (point2 p.After-index_of-g2) c.part_of-3.ensures.0 in
    (rw l1 (few s g), rw l2 (few s g), rw l0 (band_below s g), sized s g l1 l2, good_shape s g, real s g 0 e0 l0, real s g 1 e1 l1, real s g 2 e2 l2)

pub returns : goal.returns
returns c =
    let p = goal.at.returns c in
    let s = handed p.In_ok-check in
    accepted s (good p.In_ok-check) _ _ _
    (leg_is s 0 (point0 p.After-index_of-g2) c.part_of.ensures.0)
    (leg_is s 1 (point1 p.After-index_of-g2) c.part_of-2.ensures.0)
    (leg_is s 2 (point2 p.After-index_of-g2) c.part_of-3.ensures.0)
    c.part_of-2.ensures.1
    c.part_of-3.ensures.1
    c.fill_weights.ensures
