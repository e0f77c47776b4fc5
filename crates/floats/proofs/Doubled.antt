-- A rounded fraction is at most twice the fraction. Assumes nothing.
use mathlib.Core.Path.{◌≡◌, ap, ◌∙◌, sym, subst}
use mathlib.Core.Bool.{false, not}
use Prim.Native.Nat.{ℕ, ◌+◌, ◌*◌, ◌/◌, ◌%◌, ◌^◌, ◌≤◌, ◌<◌, compare, Ordering}
use native.Mathlib.Nat.{le_trans, le_of_eq, mul_comm, mul_assoc, mul_right_comm, add-mul, suc-mul, mul-le-mul_right, le_of_mul-le-mul_right, div-add-mod'}
use native.Mathlib.Omega.{arith}
use lib.Pow.{pow_pos}
use lib.Dec.{T, is_le, compare_is_eq, nleb→lt, eqb→eq}
use lib.IntN.{ℤ}
use lib.Ieee.{Float, fin, binary64, up, down, round, nearest}
use lib.Ieee.Exact.{HasValue}
use lib.Ieee.Nearest.{closest}
use lib.Ieee.Order.{drop, kept}
use lib.Ieee.Scale.{grid, finite, round_val, round_under}

-- q or the next number up, times u: at most twice q * u + r, where r says which
near : (o : Ordering) (q r u : ℕ) → (T (not (is_le o)) → u < r * 2) → (T (compare_is_eq o) → r * 2 ≡ u) → nearest q o * u ≤ 2 * (q * u + r)
near Ordering.lt q r u g e = omega arith
near Ordering.eq q r u g e =
    let h = e tt in
    let l : q % 2 ≤ 1 = omega arith in
    let k : q % 2 * u ≤ 1 * u = mul-le-mul_right u l in
    omega (arith, add-mul q (q % 2) u)
near Ordering.gt q r u g e = let h = g tt in omega (arith, suc-mul q u)

closest_double : (n u : ℕ) → closest n u * u ≤ 2 * n
closest_double n u =
    le_trans (near (compare (n % u * 2) u) (n / u) (n % u) u (nleb→lt (n % u * 2) u) (eqb→eq (n % u * 2) u)) (le_of_eq (ap (λ (x : ℕ). 2 * x) (div-add-mod' n u)))

grid_double : (a c : ℕ) → grid binary64 a c * c ≤ 2 * (a * 2 ^ 1074)
grid_double a c =
    let n = a * 2 ^ 1074 in
    let k = drop 53 n c in
    le_trans (le_of_eq (mul_assoc (kept 53 n c) (2 ^ k) c ∙ ap (λ (x : ℕ). kept 53 n c * x) (mul_comm (2 ^ k) c))) (closest_double n (c * 2 ^ k))

pub round_double : (a c n : ℕ) (d : ℤ) → round binary64 false a c ≡ fin false n d → n * up d * c ≤ 2 * a * down d
round_double a c n d e =
    let g = grid binary64 a c in
    let f : T (finite (round binary64 false a c)) = subst (λ (v : Float). T (finite v)) (sym e) tt in
    let v : HasValue (fin false n d) false g (2 ^ 1074) = subst (λ (x : Float). HasValue x false g (2 ^ 1074)) e (round_val binary64 a c (round_under binary64 a c f)) in
    let l : g * c * down d ≤ 2 * (a * 2 ^ 1074) * down d = mul-le-mul_right (down d) (grid_double a c) in
    let p : n * up d * c * 2 ^ 1074 ≡ g * c * down d = mul_right_comm (n * up d) c (2 ^ 1074) ∙ ap (λ (x : ℕ). x * c) v.1 ∙ mul_right_comm g (down d) c in
    let q : 2 * (a * 2 ^ 1074) * down d ≡ 2 * a * down d * 2 ^ 1074 = ap (λ (x : ℕ). x * down d) (sym (mul_assoc 2 a (2 ^ 1074))) ∙ mul_right_comm (2 * a) (2 ^ 1074) (down d) in
    le_of_mul-le-mul_right (le_trans (le_of_eq p) (le_trans l (le_of_eq q))) (pow_pos 1074)
