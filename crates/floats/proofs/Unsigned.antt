-- Numbers without sign that are no NaN: choices, rounded fractions, and the sums, products and quotients that stay so. Assumes nothing.
use mathlib.Core.Path.{◌≡◌, refl, sym, subst}
use mathlib.Core.Bool.{Bool, true, false, not, cond}
use Prim.Native.Nat.{ℕ, zero, suc, ◌+◌, ◌-◌, ◌*◌, ◌/◌, ◌%◌, ◌^◌, compare}
use native.Mathlib.Nat.{lt_irrefl, zero-mul}
use native.Mathlib.Omega.{arith}
use lib.IntN.{ℤ}
use lib.Dec.{T, ltb, eqb, eqb→eq, lit<}
use borrow.Author.Tests.{ne_eqb}
use lib.Ieee.{Float, nan, inf, fin, binary64, up, down, is_nan, lt, le, eq, odd, units, round, sum, add, mul, div, of_bits, size, nearest}
use lib.Ieee.Fits.{down_pos, and_r}
use lib.Ieee.Order.{le_of_values}
use Rattle.phonon.specs.Number.{◌⊕◌, ◌⊗◌, ◌⊘◌, f0, f1}
use Rattle.phonon.specs.Tests.{sign_bit}
use Rattle.floats.specs.Sign.{Unsigned}
use Rattle.floats.proofs.Compare.{pick_no}

-- ---- in other words

pub sign_of : (x : Float) → Unsigned x → sign_bit x ≡ false
unfolding sign_bit
sign_of nan p = absurd p
sign_of (inf true) p = absurd p
sign_of (inf false) p = refl
sign_of (fin true m e) p = absurd p
sign_of (fin false m e) p = refl

pub number_of : (x : Float) → Unsigned x → T (not (is_nan x))
unfolding is_nan
number_of nan p = absurd p
number_of (inf s) p = tt
number_of (fin s m e) p = tt

pub at_least_zero : (x : Float) → Unsigned x → T (le f0 x)
unfolding le lt eq of_bits
at_least_zero nan p = absurd p
at_least_zero (inf true) p = absurd p
at_least_zero (inf false) p = tt
at_least_zero (fin true m e) p = absurd p
at_least_zero (fin false m e) p = le_of_values f0 (fin false m e) 0 1 (m * up e) (down e) (lit< tt) (down_pos e) (refl, refl) (refl, refl) (omega (arith, zero-mul (down e)))

-- from 1 on
pub unsigned_least : (x : Float) → T (le f1 x) → Unsigned x
unfolding le lt eq of_bits
unsigned_least nan h = absurd h
unsigned_least (inf true) h = absurd h
unsigned_least (inf false) h = tt
unsigned_least (fin true m e) h = absurd (let z : 1 * 1 * down e ≡ 0 = eqb→eq _ _ (and_r (eqb (1 * 1 * down e) (m * up e * 1)) (eqb (1 * 1 * down e) 0) h) in omega (arith, down_pos e))
unsigned_least (fin false m e) h = tt

-- ---- a choice, and a rounded fraction

pub unsigned_cond : (b : Bool) (x y : Float) → Unsigned x → Unsigned y → Unsigned (cond b x y)
unsigned_cond true x y p q = p
unsigned_cond false x y p q = q

unsigned_odd : (n q k l : ℕ) → Unsigned (odd n false q k l)
unfolding odd
unsigned_odd n zero k l = tt
unsigned_odd n (suc q) k l = tt

unsigned_units : (q k : ℕ) → Unsigned (units binary64 false q k)
unfolding units
unsigned_units q k = unsigned_cond (ltb (q * 2 ^ k) (2 ^ 2098)) (odd 54 false q k 1074) (inf false) (unsigned_odd 54 q k 1074) tt

pub unsigned_round : (a c : ℕ) → Unsigned (round binary64 false a c)
unfolding round
unsigned_round a c =
    let n = a * 2 ^ 1074 in
    let k = size (n / c) - 53 in
    let u = c * 2 ^ k in
    unsigned_units (nearest (n / u) (compare (n % u * 2) u)) k

-- ---- the operations, where no NaN comes of them

pub unsigned_square : (x : Float) → T (not (is_nan x)) → Unsigned (x ⊗ x)
unfolding mul is_nan
unsigned_square nan h = absurd h
unsigned_square (inf true) h = tt
unsigned_square (inf false) h = tt
unsigned_square (fin true m e) h = unsigned_round (m * up e * (m * up e)) (down e * down e)
unsigned_square (fin false m e) h = unsigned_round (m * up e * (m * up e)) (down e * down e)

pub unsigned_add : (x y : Float) → Unsigned x → Unsigned y → Unsigned (x ⊕ y)
unfolding add sum
unsigned_add nan y p q = absurd p
unsigned_add (inf true) y p q = absurd p
unsigned_add (inf false) nan p q = absurd q
unsigned_add (inf false) (inf true) p q = absurd q
unsigned_add (inf false) (inf false) p q = tt
unsigned_add (inf false) (fin t n d) p q = tt
unsigned_add (fin true m e) y p q = absurd p
unsigned_add (fin false m e) nan p q = absurd q
unsigned_add (fin false m e) (inf true) p q = absurd q
unsigned_add (fin false m e) (inf false) p q = tt
unsigned_add (fin false m e) (fin true n d) p q = absurd q
unsigned_add (fin false m e) (fin false n d) p q = unsigned_round (m * up e * down d + n * up d * down e) (down e * down d)

-- the first of two choices, of a number that is not zero
not_zero : (m : ℕ) (x y : Float) → cond (eqb (suc m) 0) x y ≡ y
not_zero m x y = pick_no (eqb (suc m) 0) x y (ne_eqb (suc m) 0 (λ z. lt_irrefl 0 (omega arith)))

-- times a finite number above zero
pub unsigned_times : (x : Float) (m : ℕ) (e : ℤ) → Unsigned x → Unsigned (x ⊗ fin false (suc m) e)
unfolding mul
unsigned_times nan m e p = absurd p
unsigned_times (inf true) m e p = absurd p
unsigned_times (inf false) m e p = subst Unsigned (sym (not_zero m nan (inf false))) tt
unsigned_times (fin true n d) m e p = absurd p
unsigned_times (fin false n d) m e p = unsigned_round (n * up d * (suc m * up e)) (down d * down e)

-- a finite number above zero, over one that has no sign
pub unsigned_over : (m : ℕ) (e : ℤ) (y : Float) → Unsigned y → Unsigned (fin false (suc m) e ⊘ y)
unfolding div
unsigned_over m e nan p = absurd p
unsigned_over m e (inf true) p = absurd p
unsigned_over m e (inf false) p = tt
unsigned_over m e (fin true n d) p = absurd p
unsigned_over m e (fin false n d) p =
    unsigned_cond (eqb n 0) (cond (eqb (suc m) 0) nan (inf false)) (round binary64 false (suc m * up e * down d) (n * up d * down e))
    (subst Unsigned (sym (not_zero m nan (inf false))) tt) (unsigned_round (suc m * up e * down d) (n * up d * down e))

-- a number without sign, over a finite one above zero
pub unsigned_quotient : (x : Float) (n : ℕ) (d : ℤ) → Unsigned x → Unsigned (x ⊘ fin false (suc n) d)
unfolding div
unsigned_quotient nan n d p = absurd p
unsigned_quotient (inf true) n d p = absurd p
unsigned_quotient (inf false) n d p = tt
unsigned_quotient (fin true m e) n d p = absurd p
unsigned_quotient (fin false m e) n d p =
    subst Unsigned (sym (not_zero n (cond (eqb m 0) nan (inf false)) (round binary64 false (m * up e * down d) (suc n * up d * down e)))) (unsigned_round (m * up e * down d) (suc n * up d * down e))
