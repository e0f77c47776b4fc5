-- Sums and products of floats commute, to the bit.
use mathlib.Core.Path.{◌≡◌, refl, ap, ◌∙◌}
use mathlib.Core.Bool.{Bool, true, false, ◌&&◌, cond}
use Prim.Native.Nat.{ℕ, ◌-◌, ◌*◌, ◌<◌}
use native.Mathlib.Nat.{add_comm, mul_comm}
use native.Mathlib.Decide.{dec_lt}
use native.Mathlib.Omega.{arith}
use lib.Dec.{ltb, eqb}
use lib.Ieee.{Float, Format, nan, inf, fin, binary64, round, sum, add, mul, unlike, up, down}
use Rattle.phonon.specs.declared.Complex.{Complex}
use borrow.Author.Tests.{lt-ltb, le-ltb}
use Rattle.phonon.specs.Common.{cmul}
use Rattle.planes.proofs.SplitLaws.{complex_eq}

unlike_comm : (s t : Bool) → unlike s t ≡ unlike t s
unlike_comm true true = refl
unlike_comm true false = refl
unlike_comm false true = refl
unlike_comm false false = refl

pub mul_commutes : (f : Format) (x y : Float) → mul f x y ≡ mul f y x
unfolding mul
mul_commutes f nan nan = refl
mul_commutes f nan (inf t) = refl
mul_commutes f nan (fin t n d) = refl
mul_commutes f (inf s) nan = refl
mul_commutes f (inf s) (inf t) = ap inf (unlike_comm s t)
mul_commutes f (inf s) (fin t n d) = ap (λ u. cond (eqb n 0) nan (inf u)) (unlike_comm s t)
mul_commutes f (fin s m e) nan = refl
mul_commutes f (fin s m e) (inf t) = ap (λ u. cond (eqb m 0) nan (inf u)) (unlike_comm s t)
mul_commutes f (fin s m e) (fin t n d) =
    ap (λ (u : Bool). round f u (m * up e * (n * up d)) (down e * down d)) (unlike_comm s t)
    ∙ ap (λ (a : ℕ). round f (unlike t s) a (down e * down d)) (mul_comm (m * up e) (n * up d))
    ∙ ap (λ (c : ℕ). round f (unlike t s) (n * up d * (m * up e)) c) (mul_comm (down e) (down d))

-- a and b are the sizes of terms of unlike signs s and t
unlike_sum : (f : Format) (s t : Bool) (a b c : ℕ) → s && false ≡ t && false → s && true ≡ s → t && true ≡ t
    → cond (ltb a b) (round f t (b - a) c) (round f (s && ltb b a) (a - b) c) ≡ cond (ltb b a) (round f s (a - b) c) (round f (t && ltb a b) (b - a) c)
unlike_sum f s t a b c e0 es et = by (dec_lt a b) (dec_lt b a)
  where
    by : Dec (a < b) → Dec (b < a) → cond (ltb a b) (round f t (b - a) c) (round f (s && ltb b a) (a - b) c) ≡ cond (ltb b a) (round f s (a - b) c) (round f (t && ltb a b) (b - a) c)
    by (yes p) q = rw (lt-ltb a b p, le-ltb b a (omega arith), et)
    by (no p) (yes q) = rw (lt-ltb b a q, le-ltb a b (omega arith), es)
    by (no p) (no q) =
        let e : b - a ≡ a - b = omega arith in
        rw (le-ltb b a (omega arith), le-ltb a b (omega arith), e0, e)

sum_commutes : (f : Format) (s : Bool) (a : ℕ) (t : Bool) (b c : ℕ) → sum f s a t b c ≡ sum f t b s a c
unfolding sum
sum_commutes f true a true b c = ap (λ (n : ℕ). round f true n c) (add_comm a b)
sum_commutes f false a false b c = ap (λ (n : ℕ). round f false n c) (add_comm a b)
sum_commutes f true a false b c = unlike_sum f true false a b c refl refl refl
sum_commutes f false a true b c = unlike_sum f false true a b c refl refl refl

pub add_commutes : (f : Format) (x y : Float) → add f x y ≡ add f y x
unfolding add
add_commutes f nan nan = refl
add_commutes f nan (inf t) = refl
add_commutes f nan (fin t n d) = refl
add_commutes f (inf s) nan = refl
add_commutes f (inf true) (inf true) = refl
add_commutes f (inf true) (inf false) = refl
add_commutes f (inf false) (inf true) = refl
add_commutes f (inf false) (inf false) = refl
add_commutes f (inf s) (fin t n d) = refl
add_commutes f (fin s m e) nan = refl
add_commutes f (fin s m e) (inf t) = refl
add_commutes f (fin s m e) (fin t n d) =
    sum_commutes f s (m * up e * down d) t (n * up d * down e) (down e * down d) ∙ ap (sum f t (n * up d * down e) s (m * up e * down d)) (mul_comm (down e) (down d))

pub cmul_commutes : (a b : Complex) → cmul a b ≡ cmul b a
unfolding cmul
cmul_commutes a b =
    complex_eq
    (rw (mul_commutes binary64 a.re b.re, mul_commutes binary64 a.im b.im))
    (rw (mul_commutes binary64 a.re b.im, mul_commutes binary64 a.im b.re, add_commutes binary64 (mul binary64 b.im a.re) (mul binary64 b.re a.im)))
