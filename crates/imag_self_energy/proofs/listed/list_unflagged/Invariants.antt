-- After i turns both lists have what is unflagged of the first i pairs.
use Prim.Native.Nat.{◌≤◌}
use mathlib.Core.Path.{◌≡◌}
use lib.ListN.{length}
use Rattle.phonon.specs.Number.{fold}
use Rattle.imag_self_energy.specs.Lists.{Listed, unflagged_step}
use Rattle.imag_self_energy.proofs.listed.list_unflagged.Given as goal

abbrev pub invariant-loop-x : goal.invariant-loop-x
invariant-loop-x l =
    (l.x-index ≤ length l.pairs)
    × (l.m ≤ l.x-index)
    × (l.l ≤ l.x-index)
    × (length l.one ≡ length l.initial.one)
    × (length l.two ≡ length l.initial.two)
    × Listed l.area (λ z g. fold l.x-index z (unflagged_step l.area l.c l.flags l.pairs g)) l.one l.m
    × Listed l.area (λ z g. fold l.x-index z (unflagged_step l.area l.d l.flags l.pairs g)) l.two l.l
