-- A matrix and a vector of the work buffer, by their places.
use Rattle.std.specs.Prelude.{List, ℕ, ◌+◌, ◌*◌, ◌<◌, ◌≤◌, Float}
use Rattle.phonon.specs.declared.Complex.{Complex}
use Rattle.phonon.specs.declared.Legs.{Legs}
use Rattle.phonon.specs.ReciprocalToNormal.{dot}
use Rattle.planes.specs.Split.{column, strided}
use Rattle.reciprocal_to_normal.specs.declared.places.Planes.{Planes}
use Rattle.reciprocal_to_normal.specs.declared.places.Vector.{Vector}

-- number k of the vector
abbrev pub number_in : List Float → Vector → ℕ → Complex
number_in l v = strided l v.at v.apart v.step

-- column c of a matrix of n numbers a row
abbrev pub column_of : List Float → Planes → ℕ → ℕ → ℕ → Complex
column_of l m n c = column l m.at m.apart n c

-- their dot product
abbrev pub column_dot : List Float → Planes → Vector → ℕ → ℕ → Complex
column_dot l m v n c = dot n (column_of l m n c) (number_in l v)

-- a matrix of n rows and columns and a vector of n numbers lie below `end`
abbrev pub Below : ℕ → ℕ → Planes → Vector → Type 0
Below end n m v = (n ≤ 3000) × (m.at + m.apart + n * n ≤ end) × (v.at + v.apart + n * v.step < end + v.step)

-- what a plane of P atoms is worked from lies below its row, and there is a frequency for each band of the later legs
abbrev pub PlaneFits : ℕ → ℕ → ℕ → ℕ → ℕ → ℕ → ℕ → Type 0
PlaneFits P matrix leg1 leg2 row n1 n2 =
    (1 ≤ P) × (P ≤ 1000) × (matrix + 2 * (3 * P * (3 * P)) ≤ row) × (leg1 + 2 * (3 * P * (3 * P)) ≤ row) × (leg2 + 2 * (3 * P * (3 * P)) ≤ row) × (3 * P ≤ n1) × (3 * P ≤ n2)

-- what the strengths of P atoms are worked from, the constants at fo and the legs at e, lies below so, and there is a frequency for each band
pub record OperandsFit (P fo : ℕ) (e : Legs ℕ) (so n0 n1 n2 : ℕ) : Type 0 where
  pub some : 1 ≤ P
  pub few : P ≤ 1000
  pub constants : fo + 2 * (3 * P * (3 * P * (3 * P))) ≤ so
  pub leg0 : e.leg0 + 2 * (3 * P * (3 * P)) ≤ so
  pub leg1 : e.leg1 + 2 * (3 * P * (3 * P)) ≤ so
  pub leg2 : e.leg2 + 2 * (3 * P * (3 * P)) ≤ so
  pub freqs0 : 3 * P ≤ n0
  pub freqs1 : 3 * P ≤ n1
  pub freqs2 : 3 * P ≤ n2
