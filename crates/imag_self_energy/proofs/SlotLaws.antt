-- Slots read one by one: where they lie, and the total that their columns make.
use Prim.Native.Nat.{ℕ, ◌+◌, ◌*◌, ◌<◌, ◌≤◌}
use native.Mathlib.Nat.{mul-le-mul_left, mul_assoc, mul-one}
use native.Mathlib.Omega.{arith}
use mathlib.Core.Path.{◌≡◌, ap, ◌∙◌}
use mathlib.Core.List.{List}
use lib.Ieee.{Float}
use lib.ListN.{length}
use Rattle.phonon.specs.declared.Band.{Band}
use Rattle.phonon.specs.Number.{f0, fold}
use Rattle.phonon.specs.Sets.{slot}
use Rattle.phonon.proofs.Laws.{pair_lt}
use Rattle.imag_self_energy.specs.declared.Shared.{Shared}
use Rattle.imag_self_energy.specs.Bands.{band_at, column_sum, band_total}
use Rattle.imag_self_energy.proofs.Laws.{Within, at_end}

-- slot (b, j, k) of n bands lies below l, and so do the numbers on the way to it
pub record SlotIn (n b j k l : ℕ) : Type 0 where
  pub row : b * n ≤ l
  pub column : b * n + j ≤ l
  pub start : (b * n + j) * n ≤ l
  pub inside : slot n b j k < l

slot_in_lem : (n b j k l : ℕ) → j < n → k < n → (b + 1) * (n * n) ≤ l → SlotIn n b j k l
slot_in_lem n b j k l p q h =
    let o : b < b + 1 = omega arith in
    let s : slot n b j k < (b + 1) * (n * n) = rw (mul_assoc (b + 1) n n) at (pair_lt (pair_lt o p) q) in
    let one : 1 ≤ n = omega arith in
    let e : b * n + j ≤ (b * n + j) * n = omega (arith, mul-le-mul_left (b * n + j) one, mul-one (b * n + j)) in
    record { row = omega arith; column = omega arith; start = omega arith; inside = omega arith }

-- slot (b, j, k) in each slice that it is read from
pub record SlotWithin (n c b j k : ℕ) (g : List ℕ) (x y v : List Float) : Type 0 where
  pub flag : SlotIn n c j k (length g)
  pub first : SlotIn n c j k (length x)
  pub second : SlotIn n c j k (length y)
  pub strength : SlotIn n b j k (length v)

pub slot_within : {n c b j k : ℕ} {g : List ℕ} {x y v : List Float} → j < n → k < n → Within (n * n) c b g x y v → SlotWithin n c b j k g x y v
slot_within {n} {c} {b} {j} {k} p q h =
    record {
      flag = slot_in_lem n c j k _ p q h.flags;
      first = slot_in_lem n c j k _ p q h.first;
      second = slot_in_lem n c j k _ p q h.second;
      strength = slot_in_lem n b j k _ p q h.strengths;
    }

-- all k columns are added, of the block that position b reads
pub whole : (h : Shared) (n c d b k : ℕ) (seconds thirds : List Band) (g : List ℕ) (x y v : List Float) {r : Float} → c ≡ d → k ≡ n
    → r ≡ fold k f0 (λ i. column_sum h n c b seconds g x y v i (band_at thirds i)) → r ≡ band_total h n d b seconds thirds g x y v
unfolding band_total
whole h n c d b k seconds thirds g x y v e m p =
    at_end (λ i. column_sum h n c b seconds g x y v i (band_at thirds i)) f0 k n m p ∙ ap (λ (z : ℕ). fold n f0 (λ i. column_sum h n z b seconds g x y v i (band_at thirds i))) e
