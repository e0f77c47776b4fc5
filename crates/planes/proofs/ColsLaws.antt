-- Laws of arrays of sums in two planes.
use mathlib.Core.Path.{◌≡◌, ◌∙◌}
use mathlib.Core.List.{List}
use Prim.Native.Nat.{ℕ, ◌+◌, ◌*◌, ◌<◌}
use native.Mathlib.Omega.{arith}
use lib.ListN.{replicate, length-replicate, get_or-replicate}
use lib.Ieee.{Float, nan}
use Rattle.phonon.specs.declared.Complex.{Complex}
use Rattle.phonon.specs.Number.{f0}
use Rattle.phonon.specs.Common.{czero}
use Rattle.planes.specs.Split.{split, WroteSplit, Cols}
use Rattle.planes.proofs.SplitLaws.{complex_eq}

-- sums that are zero
pub cols_zero : (n : ℕ) (f : ℕ → Complex) → ((c : ℕ) → c < n → czero ≡ f c) → Cols (replicate (2 * n) f0) n f
cols_zero n f e =
    record {
      size = length-replicate (2 * n) f0;
      col = λ c h. complex_eq (get_or-replicate (2 * n) (0 + c) f0 nan (omega arith)) (get_or-replicate (2 * n) (0 + n + c) f0 nan (omega arith)) ∙ e c h;
    }

-- sums that are written anew
pub cols_step : {t t' : List Float} {n : ℕ} {f g h : ℕ → Complex} → Cols t n f → WroteSplit t t' 0 n n h → ((c : ℕ) → c < n → split t 0 n c ≡ f c → h c ≡ g c) → Cols t' n g
cols_step s w e = record { size = w.size ∙ s.size; col = λ c p. w.inside c p ∙ e c p (s.col c p) }

-- the same sums by another name
pub cols_ext : {t : List Float} {n : ℕ} {f g : ℕ → Complex} → Cols t n f → ((c : ℕ) → c < n → f c ≡ g c) → Cols t n g
cols_ext s e = record { size = s.size; col = λ c p. s.col c p ∙ e c p }
