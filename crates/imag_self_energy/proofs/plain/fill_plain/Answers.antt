-- After b turns the totals before b are filled; within a turn the sum is that of the columns before k, and of the slots before j.
use Prim.Native.Nat.{◌<◌}
use mathlib.Core.Path.{◌≡◌, refl, ◌∙◌}
use native.Mathlib.Omega.{arith}
use lib.ListN.{length, length-set}
use Rattle.imag_self_energy.specs.Bands.{add_slot, slot_step, column_sum}
use Rattle.imag_self_energy.proofs.Laws.{sized_within, turn, at_end, filled_step, filled_table}
use Rattle.imag_self_energy.proofs.SlotLaws.{SlotWithin, slot_within, whole}
use Rattle.imag_self_energy.proofs.plain.fill_plain.Goals as goal
use Rattle.imag_self_energy.proofs.plain.fill_plain.Goals.{In-loop-j, then-flags-o, else-flags-o}

-- slot (b, j, k) lies in each slice
entry :
    (c : In-loop-j)
    → SlotWithin c.args.slots.now.bands c.block-c.result c.loop-b.b c.loop-j.j c.loop-k.k
    c.args.slots.now.flags.now c.args.slots.now.integration.first.now c.args.slots.now.integration.second.now c.args.slots.now.strengths.now
entry c = slot_within (omega arith) (omega (arith, c.args.later.now.alike)) (sized_within _ c.block-c.ensures (omega arith) c.args.slots.now.sized)

pub overflow_mul-o : goal.overflow_mul-o
overflow_mul-o c = omega (arith, entry (goal.at.overflow_mul-o c).In-loop-j)

pub overflow_add-o : goal.overflow_add-o
overflow_add-o c = omega (arith, entry (goal.at.overflow_add-o c).In-loop-j)

pub overflow_mul-o-in-loop-j : goal.overflow_mul-o-in-loop-j
overflow_mul-o-in-loop-j c = omega (arith, entry (goal.at.overflow_mul-o-in-loop-j c).In-loop-j)

pub overflow_add-o-in-loop-j : goal.overflow_add-o-in-loop-j
overflow_add-o-in-loop-j c = omega (arith, entry (goal.at.overflow_add-o-in-loop-j c).In-loop-j)

pub bounds-flags-o : goal.bounds-flags-o
bounds-flags-o c = omega (arith, (entry (goal.at.bounds-flags-o c).In-loop-j).flag.inside)

pub offset_bounds-first-o : goal.offset_bounds-first-o
offset_bounds-first-o c = omega (arith, entry (goal.at.offset_bounds-first-o c).In-loop-j)

pub bounds-first-o : goal.bounds-first-o
bounds-first-o c = omega (arith, (entry (goal.at.bounds-first-o c).In-loop-j).first.inside)

pub offset_bounds-second-o : goal.offset_bounds-second-o
offset_bounds-second-o c = omega (arith, entry (goal.at.offset_bounds-second-o c).In-loop-j)

pub bounds-second-o : goal.bounds-second-o
bounds-second-o c = omega (arith, (entry (goal.at.bounds-second-o c).In-loop-j).second.inside)

pub offset_bounds-strengths-s : goal.offset_bounds-strengths-s
offset_bounds-strengths-s c = omega (arith, entry (goal.at.offset_bounds-strengths-s c).In-loop-j)

pub bounds-strengths-s : goal.bounds-strengths-s
bounds-strengths-s c = omega (arith, (entry (goal.at.bounds-strengths-s c).In-loop-j).strength.inside)

pub loop-j-preserved : goal.loop-j-preserved
unfolding slot_step add_slot
loop-j-preserved c =
    let h = c.loop-j.invariant.1 in
    elim c.if-flags-o.branch [
      | then-flags-o w ↦ (omega arith, turn _ _ _ (w.total-is ∙ rw (w.if-flags-o.true, w.contribution-total.ensures) refl) h)
      | else-flags-o w ↦ (omega arith, turn _ _ _ (w.total-is ∙ rw w.if-flags-o.false refl) h)
    ]

pub loop-k-preserved : goal.loop-k-preserved
unfolding column_sum
loop-k-preserved c = (omega (arith, c.args.later.now.alike), turn _ _ _ (at_end _ _ _ _ (omega arith) c.loop-j.invariant.1) c.loop-k.invariant.1)

pub loop-b-preserved : goal.loop-b-preserved
loop-b-preserved c =
    let l = c.loop-b in
    let h : l.b < length l.totals = omega arith in (
      omega arith,
      refl,
      length-set l.totals l.b c.loop-k.total ∙ l.invariant.2,
      filled_step _ l.invariant.3 h (whole _ _ _ _ _ _ _ _ _ _ _ _ c.block-c.ensures (omega (arith, c.args.later.now.alike)) c.loop-k.invariant.1),
    )

pub returns : goal.returns
returns c =
    let e : c.loop-b.b ≡ c.args.slots.now.positions = omega arith in
    let all : length c.loop-b.totals ≡ c.args.slots.now.positions = omega arith in
    filled_table all (rw e at c.loop-b.invariant.3)
