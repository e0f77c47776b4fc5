-- After b turns the totals before b are filled; within a turn the sum is that of the columns before k, and of the slots before j.
use Prim.Native.Nat.{◌≤◌}
use mathlib.Core.Path.{◌≡◌}
use lib.ListN.{length}
use Rattle.phonon.specs.Number.{f0, fold}
use Rattle.phonon.specs.ImagSelfEnergy.{block}
use Rattle.imag_self_energy.specs.Bands.{band_at, slot_step, column_sum, band_total}
use Rattle.imag_self_energy.proofs.Laws.{Filled}
use Rattle.imag_self_energy.proofs.plain.fill_plain.Given as goal

abbrev pub invariant-loop-j : goal.invariant-loop-j
invariant-loop-j l = (l.j ≤ l.n) × (l.total ≡ fold l.j l.initial.total (slot_step l.h l.n l.c l.b l.later.seconds.now l.flags l.first l.second l.strengths l.k l.q))

abbrev pub invariant-loop-k : goal.invariant-loop-k
invariant-loop-k l = (l.k ≤ l.n) × (l.total ≡ fold l.k f0 (λ i. column_sum l.h l.n l.c l.b l.later.seconds.now l.flags l.first l.second l.strengths i (band_at l.later.thirds.now i)))

abbrev pub invariant-loop-b : goal.invariant-loop-b
invariant-loop-b l =
    (l.b ≤ l.b-end)
    × (l.b-end ≡ length l.initial.totals)
    × (length l.totals ≡ length l.initial.totals)
    × Filled l.totals l.b (λ i. band_total l.h l.n (block l.slots.weights i) i l.later.seconds.now l.later.thirds.now l.flags l.first l.second l.strengths)
