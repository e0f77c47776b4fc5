-- What is no NaN: rounded fractions, sums with a finite number, quotients by one above zero. Assumes nothing.
use mathlib.Core.Path.{◌≡◌, sym, subst}
use mathlib.Core.Bool.{Bool, true, false, not, ◌&&◌, beq, cond, true≢false}
use Prim.Native.Nat.{ℕ, suc, ◌+◌, ◌-◌, ◌*◌}
use native.Mathlib.Nat.{zero-lt-suc}
use lib.IntN.{ℤ}
use lib.Dec.{T, ltb}
use lib.Ieee.{Float, nan, inf, fin, binary64, up, down, unlike, is_nan, neg, round, sum, add, sub, div}
use Rattle.phonon.specs.Number.{◌⊕◌, ◌⊖◌, ◌⊘◌}
use Rattle.phonon.specs.Tests.{finite}
use Rattle.floats.proofs.Bounds.{neg_round}
use Rattle.floats.proofs.Unsigned.{number_of, unsigned_round}
use Rattle.floats.proofs.Quotients.{div_is}

number_neg : (v : Float) → T (not (is_nan v)) → T (not (is_nan (neg v)))
unfolding is_nan neg
number_neg nan h = h
number_neg (inf s) h = tt
number_neg (fin s m e) h = tt

number_round : (s : Bool) (a c : ℕ) → T (not (is_nan (round binary64 s a c)))
number_round false a c = number_of (round binary64 false a c) (unsigned_round a c)
number_round true a c = subst (λ (v : Float). T (not (is_nan v))) (sym (neg_round a c)) (number_neg (round binary64 false a c) (number_of (round binary64 false a c) (unsigned_round a c)))

-- ---- an infinity stays what it is when a finite number is added or taken off

number_cond : (b : Bool) (x y : Float) → T (not (is_nan x)) → T (not (is_nan y)) → T (not (is_nan (cond b x y)))
number_cond true x y h k = h
number_cond false x y h k = k

pub number_add : (x y : Float) → T (not (is_nan x)) → finite y ≡ true → T (not (is_nan (x ⊕ y)))
unfolding add sum is_nan finite
number_add nan y h k = absurd h
number_add (inf s) nan h k = absurd (true≢false (sym k))
number_add (inf s) (inf t) h k = absurd (true≢false (sym k))
number_add (inf s) (fin t n d) h k = tt
number_add (fin s m e) nan h k = absurd (true≢false (sym k))
number_add (fin s m e) (inf t) h k = absurd (true≢false (sym k))
number_add (fin s m e) (fin t n d) h k =
    let a = m * up e * down d in
    let b = n * up d * down e in
    let c = down e * down d in
    number_cond (beq s t) (round binary64 s (a + b) c) (cond (ltb a b) (round binary64 t (b - a) c) (round binary64 (s && ltb b a) (a - b) c)) (number_round s (a + b) c)
    (number_cond (ltb a b) (round binary64 t (b - a) c) (round binary64 (s && ltb b a) (a - b) c) (number_round t (b - a) c) (number_round (s && ltb b a) (a - b) c))

finite_neg : (y : Float) → finite y ≡ true → finite (neg y) ≡ true
unfolding finite neg
finite_neg nan h = h
finite_neg (inf s) h = h
finite_neg (fin s m e) h = h

pub number_sub : (x y : Float) → T (not (is_nan x)) → finite y ≡ true → T (not (is_nan (x ⊖ y)))
unfolding sub
number_sub x y h k = number_add x (neg y) h (finite_neg y k)

pub number_finite : (x : Float) → finite x ≡ true → T (not (is_nan x))
unfolding finite is_nan
number_finite nan h = absurd (true≢false (sym h))
number_finite (inf s) h = tt
number_finite (fin s m e) h = tt

-- ---- a quotient

pub number_quotient : (d : Float) (m : ℕ) (e : ℤ) → T (not (is_nan d)) → T (not (is_nan (d ⊘ fin false (suc m) e)))
unfolding is_nan div
number_quotient nan m e h = absurd h
number_quotient (inf s) m e h = tt
number_quotient (fin s n d) m e h = subst (λ (v : Float). T (not (is_nan v))) (sym (div_is s n d (suc m) e (zero-lt-suc m))) (number_round (unlike s false) (n * up d * down e) (suc m * up e * down d))
