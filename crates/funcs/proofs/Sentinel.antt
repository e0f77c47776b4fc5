-- The source counts a slot by the sign of its occupations, document 01 by its frequencies: the two agree. Assumes nothing.
use mathlib.Core.Path.{◌≡◌, refl, ap, ◌∙◌, sym}
use mathlib.Core.Bool.{Bool, true, false, not, cond, true≢false}
use Prim.Native.Nat.{ℕ, zero, suc, ◌+◌, ◌*◌}
use native.Mathlib.Nat.{zero-mul}
use native.Mathlib.Omega.{arith}
use lib.IntN.{ℤ}
use borrow.Author.Tests.{ltb-true, ltb-false}
use lib.Ieee.{Float, nan, inf, fin, up, down, lt, of_bits}
use Rattle.phonon.specs.Number.{f0}
use Rattle.phonon.specs.Funcs.{bose_einstein}
use Rattle.phonon.specs.Tests.{finite, sign_bit}
use Rattle.floats.specs.Sign.{Unsigned}
use Rattle.floats.proofs.Unsigned.{sign_of}
use Rattle.floats.proofs.Signs.{not_below}
use Rattle.funcs.specs.Occupation.{mark, marked}
use Rattle.funcs.proofs.Occupation.{occupation_unsigned}

-- the mark is below zero
mark_below : lt mark f0 ≡ true
unfolding lt of_bits
mark_below = refl

-- at a finite temperature without sign bit, by its tests
at_temperature : (n : ℕ) (d : ℤ) (t : Float) → finite t ≡ true → sign_bit t ≡ false → Unsigned (bose_einstein (fin false (suc n) d) t)
unfolding finite sign_bit
at_temperature n d nan f s = absurd (true≢false (sym f))
at_temperature n d (inf x) f s = absurd (true≢false (sym f))
at_temperature n d (fin true k g) f s = absurd (true≢false s)
at_temperature n d (fin false k g) f s = occupation_unsigned n d k g

no_product : (a b : ℕ) → a ≡ 0 → a * b ≡ 0
no_product a b e = ap (λ (x : ℕ). x * b) e ∙ zero-mul b

-- The occupation of a frequency above a cutoff that is not below zero. The frequency is then above zero.
pub above : (c f t : Float) → finite f ≡ true → lt c f ≡ true → lt c f0 ≡ false → finite t ≡ true → sign_bit t ≡ false → Unsigned (bose_einstein f t)
unfolding lt of_bits finite
above nan f t ff a z ft st = absurd (true≢false (sym a))
above (inf true) f t ff a z ft st = absurd (true≢false z)
above (inf false) nan t ff a z ft st = absurd (true≢false (sym ff))
above (inf false) (inf x) t ff a z ft st = absurd (true≢false (sym ff))
above (inf false) (fin x n d) t ff a z ft st = absurd (true≢false (sym a))
above (fin s m e) nan t ff a z ft st = absurd (true≢false (sym ff))
above (fin s m e) (inf x) t ff a z ft st = absurd (true≢false (sym ff))
above (fin false m e) (fin true n d) t ff a z ft st = absurd (true≢false (sym a))
above (fin false m e) (fin false zero d) t ff a z ft st =
    absurd (let l = ltb-true (m * up e * down d) (0 * up d * down e) a in omega (arith, no_product (0 * up d) (down e) (zero-mul (up d))))
above (fin false m e) (fin false (suc n) d) t ff a z ft st = at_temperature n d t ft st
above (fin true m e) (fin true n d) t ff a z ft st =
    absurd (let l = ltb-true (n * up d * down e) (m * up e * down d) a in let k = ltb-false 0 (m * up e * 1 + 0 * 1 * down e) z in omega (arith, no_product (m * up e) (down d) (omega arith)))
above (fin true m e) (fin false zero d) t ff a z ft st =
    absurd (let l = ltb-true 0 (m * up e * down d + 0 * up d * down e) a in let k = ltb-false 0 (m * up e * 1 + 0 * 1 * down e) z in omega (arith, no_product (m * up e) (down d) (omega arith), no_product (0 * up d) (down e) (zero-mul (up d))))
above (fin true m e) (fin false (suc n) d) t ff a z ft st = at_temperature n d t ft st

-- what the source stores is below zero exactly where the frequency does not exceed the cutoff
pub sentinel : (c f t : Float) → finite f ≡ true → lt c f0 ≡ false → finite t ≡ true → sign_bit t ≡ false → lt (marked t c f) f0 ≡ not (lt c f)
unfolding marked
sentinel c f t ff z ft st = go (lt c f) refl
  where
    go : (b : Bool) → lt c f ≡ b → lt (marked t c f) f0 ≡ not (lt c f)
    go true a = ap (λ (x : Bool). lt (cond x (bose_einstein f t) mark) f0) a ∙ not_below (bose_einstein f t) (sign_of (bose_einstein f t) (above c f t ff a z ft st)) ∙ sym (ap not a)
    go false a = ap (λ (x : Bool). lt (cond x (bose_einstein f t) mark) f0) a ∙ mark_below ∙ sym (ap not a)
