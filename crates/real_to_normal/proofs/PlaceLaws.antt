-- The places of the work buffer, one behind another.
use mathlib.Core.Path.{◌≡◌}
use mathlib.Core.List.{List}
use Prim.Native.Nat.{ℕ, ◌+◌, ◌*◌, ◌<◌, ◌≤◌}
use native.Mathlib.Omega.{arith}
use lib.Ieee.{Float}
use Rattle.planes.specs.Region.{SameOutside}
use Rattle.planes.proofs.RegionLaws.{outside_then, outside_wider}
use Rattle.planes.proofs.Products.{row_le}
use Rattle.real_to_normal.specs.Work.{columns_at, factors_at, pre_at, constants_at, scratch_at, listing_at, end_at}

-- nothing cites this and pre_fits now; docs/PORT.md names them
pub few : {P : ℕ} → P ≤ 256 → P ≤ 1000
few h = omega arith

module _ (P S : ℕ) where
  -- a leg's columns and factors
  pub columns_end : {x e : ℕ} → x < 3 → e ≡ columns_at P x → e + 2 * (3 * P * (3 * P)) ≤ scratch_at P S
  columns_end p e = omega (arith, row_le (2 * (3 * P * (3 * P))) p)

  pub factors_end : {x g : ℕ} → x < 3 → g ≡ factors_at P S x → g + 2 * (P * S) ≤ constants_at P S
  factors_end p e = omega (arith, row_le (2 * (P * S)) p)

  pub columns_pre : columns_at P 3 ≤ pre_at P S
  columns_pre = omega arith

  pub pre_fits : {n : ℕ} → scratch_at P S ≤ n → pre_at P S + 2 * P ≤ n
  pre_fits h = omega arith

  -- the legs, and then what lies behind them
  pub outside_legs : {l l₁ l₂ : List Float} → SameOutside l l₁ 0 (pre_at P S) → SameOutside l₁ l₂ (pre_at P S) (end_at P S) → SameOutside l l₂ 0 (end_at P S)
  outside_legs k h = outside_then (outside_wider 0 (end_at P S) (omega arith) (omega arith) k) (outside_wider 0 (end_at P S) (omega arith) (omega arith) h)

  -- the force constants, and then the scratch and the listing
  pub outside_listing : {l l₁ l₂ : List Float} → SameOutside l l₁ (pre_at P S) (scratch_at P S) → SameOutside l₁ l₂ (scratch_at P S) (end_at P S) → SameOutside l l₂ (pre_at P S) (end_at P S)
  outside_listing k h = outside_then (outside_wider (pre_at P S) (end_at P S) (omega arith) (omega arith) k) (outside_wider (pre_at P S) (end_at P S) (omega arith) (omega arith) h)

  pub outside_scratch : {l l₁ l₂ : List Float} → SameOutside l l₁ (pre_at P S) (scratch_at P S) → SameOutside l₁ l₂ (scratch_at P S) (listing_at P S) → SameOutside l l₂ (pre_at P S) (end_at P S)
  outside_scratch k h = outside_listing k (outside_wider (scratch_at P S) (end_at P S) (omega arith) (omega arith) h)
