-- Each number changed: those below e are.
use mathlib.Core.Path.{◌≡◌}
use Prim.Native.Nat.{ℕ, ◌<◌, ◌≤◌}
use Rattle.phonon.specs.declared.Complex.{Complex}
use Rattle.planes.specs.Split.{split, WroteSplit}
use Rattle.real_to_reciprocal.proofs.sums.change_each.Given as goal

abbrev pub invariant-loop-e : goal.invariant-loop-e
invariant-loop-e g l =
    (l.e ≤ 27)
    × ((h : ℕ → Complex → Complex) → ((e : ℕ) (z r : Complex) → e < 27 → goal.F-post g l.f e z r → r ≡ h e z) → WroteSplit l.initial.t l.t 0 27 l.e (λ k. h k (split l.initial.t 0 27 k)))
