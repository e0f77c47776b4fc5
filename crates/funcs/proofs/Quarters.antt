-- The sine and the cosine from the parts that the functions work out: what is left of x, its quadrant, and the two series; and what the test of the
-- domain says of x. Assumes nothing.
use mathlib.Core.Path.{◌≡◌, refl, sym, ap, ◌∙◌, subst}
use mathlib.Core.Bool.{Bool, true, false, ◌&&◌}
use Prim.Native.Nat.{ℕ, ◌*◌}
use native.Mathlib.Omega.{arith}
use lib.Dec.{T}
use lib.Ieee.{Float, nan, inf, fin, up, down, lt, le, eq, of_bits}
use lib.Ieee.Fits.{and_l, and_r}
use Rattle.phonon.specs.declared.SinCos.{SinCos}
use Rattle.phonon.specs.Number.{◌⊗◌, bits, float}
use Rattle.phonon.specs.Trig.{sin_cos, in_domain, by_domain, at_floor, near, floor, quarters, quadrant, reduced, sine_series, cosine_series, turned}
use Rattle.phonon.proofs.Order.{at_most, at_most'}
use Rattle.floats.specs.Size.{Within}

pub inside : (x r s c : Float) (q : ℕ) (v : SinCos) → in_domain x ≡ true → r ≡ reduced x (float (floor (quarters x))) → q ≡ quadrant (floor (quarters x))
    → s ≡ sine_series (r ⊗ r) → c ≡ cosine_series (r ⊗ r) → v ≡ turned q (r ⊗ s) c → v ≡ sin_cos x
unfolding sin_cos by_domain at_floor near
inside x r s c q v h hr hq hs hc hv = hv ∙ rw (hs, hc, hq, hr) refl ∙ sym (ap (λ (t : Bool). by_domain t x) h)

pub outside : (x : Float) → in_domain x ≡ false → by_domain false x ≡ sin_cos x
unfolding sin_cos
outside x h = sym (ap (λ (t : Bool). by_domain t x) h)

-- ---- the domain
pub tested : (x : Float) → (le (bits 0xC130_0000_0000_0000) x && le x (bits 0x4130_0000_0000_0000)) ≡ true → Within 1048576 x
unfolding le lt eq of_bits
tested x h = go x (and_l (le (bits 0xC130_0000_0000_0000) x) (le x (bits 0x4130_0000_0000_0000)) (subst T (sym h) tt)) (and_r (le (bits 0xC130_0000_0000_0000) x) (le x (bits 0x4130_0000_0000_0000)) (subst T (sym h) tt))
  where
    go : (x : Float) → T (le (bits 0xC130_0000_0000_0000) x) → T (le x (bits 0x4130_0000_0000_0000)) → Within 1048576 x
    go nan lo hi = absurd lo
    go (inf true) lo hi = absurd lo
    go (inf false) lo hi = absurd hi
    go (fin true m e) lo hi = omega (arith, at_most' (1 * 1048576 * down e) (m * up e * 1) true lo)
    go (fin false m e) lo hi = omega (arith, at_most (m * up e * 1) (1 * 1048576 * down e) true hi)
