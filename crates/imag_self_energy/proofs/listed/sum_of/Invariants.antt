-- After i turns the sum is that of the first i places of the list.
use Prim.Native.Nat.{ℕ, ◌<◌, ◌≤◌}
use mathlib.Core.Path.{◌≡◌}
use lib.Ieee.{Float}
use lib.ListN.{length, get_or}
use Rattle.phonon.specs.Number.{◌⊕◌, f0, fold}
use Rattle.imag_self_energy.proofs.listed.sum_of.Given as goal

abbrev pub invariant-loop-place : goal.invariant-loop-place
invariant-loop-place g l =
    (l.place-index ≤ length l.list)
    × ((h : ℕ → Float) → ((i : ℕ) (r : Float) → i < length l.list → goal.F-post g l.term (get_or l.list i 0) r → r ≡ h (get_or l.list i 0))
    → l.total ≡ fold l.place-index f0 (λ i t. t ⊕ h (get_or l.list i 0)))
