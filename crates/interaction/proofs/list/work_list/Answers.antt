-- After t turns the first t parts of the strengths are worked, the rest is as found, and the work buffer is cleared if t is not 0.
use Prim.Native.Nat.{◌+◌, ◌*◌, ◌≤◌}
use native.Mathlib.Omega.{arith}
use mathlib.Core.Path.{◌≡◌, ap}
use lib.ListN.{length}
use Rattle.phonon.specs.Sets.{slots}
use Rattle.phonon.specs.Limits.{sizes_of}
use Rattle.checks.proofs.MeasureLaws.{small}
use Rattle.interaction.proofs.ListLaws.{list_facts, worked_none, strengths_fit, flags_fit, points_fit, share_accepted, worked_next, worked_all}
use Rattle.interaction.proofs.list.work_list.Goals as goal
use Rattle.interaction.proofs.list.work_list.Goals.{In-loop-t}

-- the slots of each triplet
each : (c : In-loop-t) → c.sizes_of-slots.result.slots ≡ slots c.args.tables.now.measures
unfolding sizes_of
each c = ap (λ z. z.slots) c.sizes_of-slots.ensures

-- the part of a turn lies within the strengths
fits : (c : In-loop-t) → c.loop-t.t * c.sizes_of-slots.result.slots + c.sizes_of-slots.result.slots ≤ length c.loop-t.strengths
fits c = strengths_fit _ c.requires c.sizes_of-slots.result.slots (each c) c.loop-t.t c.loop-t-test.true c.loop-t.invariant.1

pub sizes_of-slots-requires : goal.sizes_of-slots-requires
sizes_of-slots-requires c = small _ (list_facts _ c.requires).measures

pub loop-t-init : goal.loop-t-init
loop-t-init c = (omega arith, worked_none _)

pub overflow_mul-from : goal.overflow_mul-from
overflow_mul-from c = omega (arith, fits (goal.at.overflow_mul-from c).In-loop-t, c.loop-t.invariant.1.size)

pub overflow_add-to : goal.overflow_add-to
overflow_add-to c = omega (arith, fits (goal.at.overflow_add-to c).In-loop-t, c.loop-t.invariant.1.size)

pub overflow_mul-t : goal.overflow_mul-t
overflow_mul-t c = omega (arith, points_fit _ c.requires c.loop-t.t c.loop-t-test.true)

pub array_at-requires : goal.array_at-requires
array_at-requires c = (omega arith, omega (arith, points_fit _ c.requires c.loop-t.t c.loop-t-test.true))

pub slice_bounds-work_triplet-end : goal.slice_bounds-work_triplet-end
slice_bounds-work_triplet-end c =
    let l = (goal.at.slice_bounds-work_triplet-end c).In-loop-t in
    omega (arith, flags_fit _ c.requires c.sizes_of-slots.result.slots (each l) c.loop-t.t c.loop-t-test.true)

pub offset_bounds-strengths-from : goal.offset_bounds-strengths-from
offset_bounds-strengths-from c = omega (arith, fits (goal.at.offset_bounds-strengths-from c).In-loop-t, c.loop-t.invariant.1.size)

pub slice_bounds-work_triplet-end-in-loop-t : goal.slice_bounds-work_triplet-end-in-loop-t
slice_bounds-work_triplet-end-in-loop-t c = omega (arith, fits (goal.at.slice_bounds-work_triplet-end-in-loop-t c).In-loop-t)

pub work_triplet-requires : goal.work_triplet-requires
work_triplet-requires c =
    let l = (goal.at.work_triplet-requires c).In-loop-t in
    share_accepted _ c.requires c.sizes_of-slots.result.slots (each l) c.loop-t.t c.loop-t-test.true c.loop-t.invariant.1 c.array_at.ensures

pub loop-t-preserved : goal.loop-t-preserved
loop-t-preserved c =
    let l = (goal.at.loop-t-preserved c).In-loop-t in
    let r = c.work_triplet.ensures in (
      omega (arith, c.loop-t-test.true),
      worked_next _ c.requires c.sizes_of-slots.result.slots (each l) c.loop-t.t c.loop-t-test.true c.loop-t.invariant.1 c.array_at.ensures c.work_triplet.auto.strengths r.0 r.1,
    )

pub returns : goal.returns
returns c =
    let k = c.loop-t.invariant.1 in
    let all : c.loop-t.t ≡ c.args.list = omega arith in
    worked_all _ c.requires (rw all at k)
