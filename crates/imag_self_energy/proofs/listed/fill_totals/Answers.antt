-- Two totals a turn: each is the sum over its list, which is the walk over the pairs that are unflagged.
use Prim.Native.Nat.{ℕ, ◌+◌, ◌*◌}
use mathlib.Core.Path.{◌≡◌}
use mathlib.Core.List.{List}
use native.Mathlib.Nat.{mul-le-mul}
use native.Mathlib.Omega.{arith}
use lib.Ieee.{Float}
use lib.ListN.{length, set, length-set}
use Rattle.phonon.specs.ImagSelfEnergy.{block}
use Rattle.imag_self_energy.specs.Lists.{pair_total}
use Rattle.imag_self_energy.proofs.Laws.{Within, sized_within, Filled, filled_less, filled_two, filled_table}
use Rattle.imag_self_energy.proofs.ListLaws.{listed_front, total_listed}
use Rattle.imag_self_energy.proofs.listed.fill_totals.Goals as goal
use Rattle.imag_self_energy.proofs.listed.fill_totals.Goals.{After-block-d, After-sum_listed-in-loop-b}

-- the blocks of both positions lie within the slices
abbrev Blocks : After-block-d → Type 0
Blocks c =
    let s = c.args.slots.now in
    Within (s.bands * s.bands) c.block-c.result c.loop-b.b s.flags.now s.integration.first.now s.integration.second.now s.strengths.now
    × Within (s.bands * s.bands) c.block-d.result c.min-e.result s.flags.now s.integration.first.now s.integration.second.now s.strengths.now

within : (c : After-block-d) → Blocks c
within c =
    let p = c.args.slots.now.sized in (
      sized_within _ c.block-c.ensures (omega arith) p,
      sized_within _ c.block-d.ensures (omega arith) p,
    )

abbrev written : After-sum_listed-in-loop-b → List Float
written c = set (set c.loop-b.totals c.loop-b.b c.sum_listed.result) c.min-e.result c.sum_listed-in-loop-b.result

same_length : (c : After-sum_listed-in-loop-b) → length (written c) ≡ length c.args.totals.now
same_length c = simp length-set c.loop-b.invariant.3

abbrev total_of : After-sum_listed-in-loop-b → ℕ → Float
total_of c i =
    let s = c.args.slots.now in
    pair_total s.shared (s.bands * s.bands) (length c.args.pairs.now) c.args.pairs.now s.flags.now s.integration.first.now s.integration.second.now s.strengths.now c.args.factors.now (block s.weights i) i

filled : (c : After-sum_listed-in-loop-b) → Filled (written c) (c.min-e.result + 1) (total_of c)
filled c =
    let u = c.list_unflagged-m.ensures in
    filled_two _ _ c.loop-b.invariant.4 (omega arith) (omega arith)
    (total_listed _ _ _ _ _ _ _ _ _ _ _ _ _ _ c.block-c.ensures (listed_front _ _ u.0) c.sum_listed.ensures)
    (total_listed _ _ _ _ _ _ _ _ _ _ _ _ _ _ c.block-d.ensures (listed_front _ _ u.1) c.sum_listed-in-loop-b.ensures)
    (omega arith) (omega arith)

pub list_unflagged-m-requires : goal.list_unflagged-m-requires
list_unflagged-m-requires c =
    let p = c.requires in
    let few = c.args.slots.now.sized.few in
    let w = within (goal.at.list_unflagged-m-requires c).After-block-d in
    (mul-le-mul few few, p.1, p.2, omega (arith, p.1, p.4), omega (arith, p.1, p.5), w.0.flags, w.1.flags)

pub sum_listed-requires : goal.sum_listed-requires
sum_listed-requires c =
    let p = c.requires in
    let w = (within (goal.at.sum_listed-requires c).After-block-d).0 in
    ((listed_front _ _ c.list_unflagged-m.ensures.0).places, p.3, w.first, w.second, w.strengths)

pub sum_listed-requires-in-loop-b : goal.sum_listed-requires-in-loop-b
sum_listed-requires-in-loop-b c =
    let p = c.requires in
    let w = (within (goal.at.sum_listed-requires-in-loop-b c).After-block-d).1 in
    ((listed_front _ _ c.list_unflagged-m.ensures.1).places, p.3, w.first, w.second, w.strengths)

pub loop-b-preserved : goal.loop-b-preserved
loop-b-preserved c =
    let a = (goal.at.loop-b-preserved c).After-sum_listed-in-loop-b in
    let same = same_length a in
    (omega (arith, same), omega arith, omega arith, same, filled_less _ (omega arith) (filled a))

pub returns : goal.returns
returns c =
    let l = c.loop-b in
    let e : l.b ≡ length c.args.totals.now = omega arith in
    filled_table l.invariant.3 (rw e at l.invariant.4)

pub returns-2 : goal.returns-2
returns-2 c =
    let a = (goal.at.returns-2 c).After-sum_listed-in-loop-b in
    filled_table (same_length a) (filled_less _ (omega arith) (filled a))
