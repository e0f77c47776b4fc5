-- Tables that have the right sizes: where the entries of a pair of supercell atoms stand.
use mathlib.Core.Path.{◌≡◌}
use mathlib.Core.Bool.{true}
use mathlib.Core.List.{List}
use Prim.Native.Nat.{ℕ, ◌+◌, ◌-◌, ◌*◌, ◌<◌, ◌≤◌}
use native.Mathlib.Nat.{mul-le-mul_right}
use native.Mathlib.Omega.{arith}
use lib.IntN.{ℤ, pos}
use lib.ListN.{length}
use Rattle.phonon.specs.declared.Form.{Form}
use Rattle.phonon.specs.declared.Form.TheVariants.{Compact, Full}
use Rattle.phonon.specs.Tests.{all_within}
use Rattle.phonon.specs.Sets.{Forces}
use Rattle.phonon.specs.RealToReciprocal.{row_of, entry}
use Rattle.phonon.proofs.Laws.{pair_lt}
use Rattle.phonon.proofs.Accepted.{index_below}
use Rattle.real_to_reciprocal.specs.Shape.{rows_for, Shaped}

row_below : (f : Form) (P S : ℕ) (p2s : List ℤ) (i : ℕ) → 1 ≤ S → length p2s ≡ P → all_within (pos 0) (pos (S - 1)) p2s ≡ true → i < P → row_of f p2s i < rows_for f P S
row_below Compact P S p2s i h e w l = l
row_below Full P S p2s i h e w l = index_below S p2s h w i (omega arith)

-- the entries of supercell atoms j and k, for atom i with its row
pub record PairIn (S : ℕ) (c : Forces) (i row j k : ℕ) : Type 0 where
  pub shortest : entry S i j k < length c.shortest
  pub nonzero : entry S row j k < length c.nonzero
  pub constants : entry S row j k * 27 + 27 ≤ length c.constants

pub pair_in : {P S : ℕ} {c : Forces} {i row j k : ℕ} → Shaped P S c → row ≡ row_of c.form c.p2s i → i < P → j < S → k < S → PairIn S c i row j k
pair_in {P} {S} {c} {i} {row} {j} {k} h e li lj lk =
    let b : row < rows_for c.form P S = rw e (row_below c.form P S c.p2s i h.some h.atoms h.anchors li) in
    let n = pair_lt (pair_lt b lj) lk in
    record {
      shortest = omega (arith, h.shortest, pair_lt (pair_lt li lj) lk);
      nonzero = omega (arith, h.nonzero, n);
      constants = omega (arith, h.constants, mul-le-mul_right 27 n);
    }
