-- The places of slots, and a column of slots that are all flagged.
use mathlib.Core.Path.{◌≡◌, refl, sym, ap, ◌∙◌}
use mathlib.Core.List.{List}
use mathlib.Core.Bool.{Bool, true}
use Prim.Native.Nat.{ℕ, ◌+◌, ◌*◌, ◌<◌, ◌≤◌}
use native.Mathlib.Nat.{le-mul_of_pos_right, mul-le-mul_right}
use native.Mathlib.Omega.{arith}
use lib.Ieee.{Float}
use Rattle.phonon.specs.Sets.{slot}
use Rattle.phonon.specs.Tests.{every_below}
use Rattle.phonon.proofs.Laws.{pair_lt}
use Rattle.phonon.proofs.Accepted.{every_at}
use Rattle.reciprocal_to_normal.specs.Slots.{Visited, j_of, InColumn}
use Rattle.reciprocal_to_normal.proofs.SlotLaws.{slot_of}

-- ---- places

pub slot_lt : (B b j k : ℕ) → j < B → k < B → slot B b j k < (b + 1) * B * B
slot_lt B b j k pj pk = pair_lt {n = (b + 1) * B} (pair_lt {n = b + 1} (omega arith) pj) pk

-- the sums that make the place
pub slot_sums : (B b j k : ℕ) → k < B → b * B + j ≤ (b * B + j) * B
slot_sums B b j k pk = le-mul_of_pos_right (b * B + j) (omega arith)

-- a column whose slots are all flagged
pub column_passed : (p : ℕ → Bool) (v : ℕ → Float) (N B b k : ℕ) (l : List Float) → every_below (λ j. p (slot B b j k)) B ≡ true → Visited l l p v N (InColumn B b k B)
column_passed p v N B b k l e =
    record {
      size = refl;
      done = λ n q d. let f : p n ≡ true = ap p (sym (slot_of B n) ∙ rw (d.0, d.1)) ∙ every_at _ B (j_of B n) e d.2 in rw f;
      rest = λ n q d. refl;
    }

pub plane_le : {b F : ℕ} (B : ℕ) → b < F → (b + 1) * B * B ≤ F * B * B
plane_le B h = mul-le-mul_right B (mul-le-mul_right B (omega (arith, h)))
