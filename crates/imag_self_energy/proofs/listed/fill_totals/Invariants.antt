-- Two totals a turn: each is the sum over its list, which is the walk over the pairs that are unflagged.
use Prim.Native.Nat.{◌≤◌}
use mathlib.Core.Path.{◌≡◌}
use lib.ListN.{length}
use Rattle.phonon.specs.ImagSelfEnergy.{block}
use Rattle.imag_self_energy.specs.Lists.{pair_total}
use Rattle.imag_self_energy.proofs.Laws.{Filled}
use Rattle.imag_self_energy.proofs.listed.fill_totals.Given as goal

abbrev pub invariant-loop-b : goal.invariant-loop-b
invariant-loop-b l =
    (l.b ≤ length l.totals)
    × (length l.one ≡ length l.initial.one)
    × (length l.two ≡ length l.initial.two)
    × (length l.totals ≡ length l.initial.totals)
    × Filled l.totals l.b (λ i. pair_total l.slots.shared l.area (length l.pairs) l.pairs l.slots.flags.now l.slots.integration.first.now l.slots.integration.second.now l.slots.strengths.now l.factors (block l.slots.weights i) i)
