-- The numbers between 0 and 709: what their test shows, and the exponential from its parts.
use mathlib.Core.Path.{◌≡◌, refl, sym}
use mathlib.Core.Bool.{Bool, true, false, not, ◌&&◌, true≢false}
use lib.IntN.{pos}
use lib.Ieee.{Float, fin, lt, le}
use Rattle.phonon.specs.Number.{◌⊗◌, f0, whole}
use Rattle.phonon.proofs.Accepted.{and_both}
use Rattle.phonon.specs.Exp.{exp, by_range, scaled, exp_series, count, remainder}
use Rattle.funcs.specs.Reducible.{reducible}
use Rattle.funcs.proofs.Range.{limit}

pub in_range : (x : Float) → reducible x ≡ true → (lt limit x ≡ false) × (le f0 x ≡ true)
unfolding reducible
in_range x e = by (lt limit x) (le f0 x) e
  where
    by : (a b : Bool) → (not a && b) ≡ true → (a ≡ false) × (b ≡ true)
    by true b u = absurd (true≢false (sym u))
    by false b u = (refl, u)

-- what is not in the range and not above it is below 0, or a NaN
pub below : (x : Float) → reducible x ≡ false → lt limit x ≡ false → le f0 x ≡ false
unfolding reducible
below x e h = by (lt limit x) (le f0 x) e h
  where
    by : (a b : Bool) → (not a && b) ≡ false → a ≡ false → b ≡ false
    by true b u v = absurd (true≢false v)
    by false b u v = u

pub exp_parts : (x p t : Float) → reducible x ≡ true → p ≡ exp_series (remainder x (whole (count x))) → t ≡ fin false 1 (pos (count x)) → p ⊗ t ≡ exp x
unfolding exp by_range scaled
exp_parts x p t e hp ht = let h = in_range x e in rw (h.0, h.1, hp, ht) refl

-- the tests of two numbers, at once
pub both : (x y : Float) {a b : Bool} → a ≡ reducible x → b ≡ reducible y → (a && b) ≡ true → (reducible x ≡ true) × (reducible y ≡ true)
both x y p q e = and_both (reducible x) (reducible y) (rw (p, q) at e)
