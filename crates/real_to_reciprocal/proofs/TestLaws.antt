-- What the tests of whole tables say of one entry.
use mathlib.Core.Path.{◌≡◌, refl}
use mathlib.Core.Bool.{true}
use mathlib.Core.List.{List}
use Prim.Native.Nat.{ℕ, ◌+◌, ◌*◌, ◌<◌, ◌≤◌}
use native.Mathlib.Omega.{arith}
use lib.IntN.{ℤ, pos, negsuc}
use lib.Dec.{leb}
use lib.Ieee.{Float}
use borrow.Author.Tests.{leb-true}
use Rattle.phonon.specs.Number.{index, int}
use Rattle.phonon.specs.Tests.{vector_range}
use Rattle.phonon.specs.Refusal.{ranges_ok}
use Rattle.phonon.proofs.Accepted.{and_both, every_at}
use Rattle.real_to_reciprocal.specs.Shape.{Ranged}

-- a vector range has a count and a start that are not negative, and ends within the vectors
pub record Range (n : ℕ) (count start : ℤ) : Type 0 where
  pub count_is : pos (index count) ≡ count
  pub start_is : pos (index start) ≡ start
  pub some : 1 ≤ index count
  pub ends : index start + index count ≤ n

range_of : (n : ℕ) (count start : ℤ) → vector_range n count start ≡ true → Range n count start
unfolding vector_range
range_of n (pos a) (pos b) e =
    let h = and_both (leb 1 a) (leb (b + a) n) e in
    record { count_is = refl; start_is = refl; some = leb-true 1 a h.0; ends = leb-true (b + a) n h.1 }
range_of n (pos a) (negsuc b) e = absurd (let z : ◌≡◌ {A = ℕ} 0 1 = cc in omega arith)
range_of n (negsuc a) b e = absurd (let z : ◌≡◌ {A = ℕ} 0 1 = cc in omega arith)

-- entry k of the multiplicities
pub ranged_at : {vectors : List Float} {multiplicity : List ℤ} {n : ℕ} (r : Ranged vectors multiplicity n) (k : ℕ) → k < n → Range r.count (int multiplicity (2 * k)) (int multiplicity (2 * k + 1))
unfolding ranges_ok
ranged_at {multiplicity = m} {n = n} r k h =
    range_of r.count _ _ (every_at (λ i. vector_range r.count (int m (2 * i)) (int m (2 * i + 1))) n k r.ranges h)
