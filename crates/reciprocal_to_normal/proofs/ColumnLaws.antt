-- Sums of columns, and rows that are written some columns at a time.
use mathlib.Core.Path.{◌≡◌, refl, ◌∙◌}
use mathlib.Core.List.{List}
use Prim.Native.Nat.{ℕ, ◌+◌, ◌*◌, ◌<◌, ◌≤◌}
use native.Mathlib.Omega.{arith}
use native.Mathlib.Nat.{add-mul, mul_assoc, mul_left_comm}
use lib.ListN.{length, set, length-set}
use lib.Seq.{get_or-set_same, get_or-set_other}
use borrow.Author.Count.{below_more}
use lib.Ieee.{Float, nan}
use Rattle.phonon.specs.declared.Complex.{Complex}
use Rattle.planes.specs.Split.{WroteSplit}
use Rattle.planes.proofs.SplitLaws.{complex_eq, split_below}
use Rattle.planes.proofs.RegionLaws.{split_append}
use Rattle.planes.proofs.Products.{row_le}
use Rattle.reciprocal_to_normal.specs.declared.columns.Sums.{Sums}
use Rattle.reciprocal_to_normal.specs.declared.places.Planes.{Planes}
use Rattle.reciprocal_to_normal.specs.declared.places.Vector.{Vector}
use Rattle.reciprocal_to_normal.specs.Places.{Below, number_in, column_of, column_dot}
use Rattle.reciprocal_to_normal.specs.Columns.{sum_at, Summed}
use Rattle.reciprocal_to_normal.proofs.DotLaws.{dot_ext}

-- row 4 * i + p, from row p on
pub lane_place : (i p n : ℕ) → p * n + i * (4 * n) ≡ (4 * i + p) * n
lane_place i p n = omega (arith, add-mul (4 * i) p n, mul_assoc 4 i n, mul_left_comm i 4 n)

-- of the n sums those below m are f 0, f 1, .., f (m - 1); the others are as in t
pub record Begun {n : ℕ} (t t' : Sums n) (m : ℕ) (f : ℕ → Complex) : Type 0 where
  pub re_size : length t'.re ≡ n
  pub im_size : length t'.im ≡ n
  pub done : (c : ℕ) → c < m → sum_at t' c ≡ f c
  pub rest : (c : ℕ) → m ≤ c → sum_at t' c ≡ sum_at t c

module _ {n : ℕ} {t : Sums n} {f : ℕ → Complex} where
  pub begun_none : length t.re ≡ n → length t.im ≡ n → Begun t t 0 f
  begun_none e h = record { re_size = e; im_size = h; done = λ c p. absurd (omega arith); rest = λ c p. refl }

  -- one sum more
  pub begun_step : {t' : Sums n} {m : ℕ} {x y : Float} → Begun t t' m f → m < n → x ≡ (f m).re → y ≡ (f m).im → Begun t (record { re = set t'.re m x; im = set t'.im m y }) (m + 1) f
  begun_step {t'} {m} {x} {y} b h ex ey =
      record {
        re_size = length-set t'.re m x ∙ b.re_size;
        im_size = length-set t'.im m y ∙ b.im_size;
        done = below_more (λ c. sum_at {n = n} (record { re = set t'.re m x; im = set t'.im m y }) c ≡ f c) m
            (λ c p. other c (λ (e : c ≡ m). omega arith) ∙ b.done c p)
            (complex_eq (get_or-set_same t'.re m x nan (omega (arith, b.re_size)) ∙ ex) (get_or-set_same t'.im m y nan (omega (arith, b.im_size)) ∙ ey));
        rest = λ c p. other c (λ (e : c ≡ m). omega arith) ∙ b.rest c (omega arith);
      }
    where
      other : (c : ℕ) → (c ≡ m → ⊥) → sum_at {n = n} (record { re = set t'.re m x; im = set t'.im m y }) c ≡ sum_at t' c
      other c d = complex_eq (get_or-set_other t'.re m c x nan d) (get_or-set_other t'.im m c y nan d)

  pub begun_all : {t' : Sums n} → Begun t t' n f → Summed t' f
  begun_all b = record { re_size = b.re_size; im_size = b.im_size; sum = b.done }

-- sums that are written anew, and the same sums by another name
pub summed_ext : {n : ℕ} {t : Sums n} {f g : ℕ → Complex} → Summed t f → ((c : ℕ) → c < n → f c ≡ g c) → Summed t g
summed_ext s e = record { re_size = s.re_size; im_size = s.im_size; sum = λ c p. s.sum c p ∙ e c p }

module _ (ro : ℕ) (m : Planes) (v : Vector) (n : ℕ) (room : Below ro n m v) where
  -- what is read lies below what is written
  dots_below : {l l₁ : List Float} {j : ℕ} {f : ℕ → Complex} → WroteSplit l l₁ ro n j f → (c : ℕ) → c < n → column_dot l₁ m v n c ≡ column_dot l m v n c
  dots_below {l} {l₁} w c h =
      dot_ext n (column_of l₁ m n c) (column_of l m n c) (number_in l₁ v) (number_in l v)
      (λ k p. split_below w m.at m.apart (k * n + c) (omega (arith, room.1, row_le n p)))
      (λ k p. split_below w v.at v.apart (k * v.step) (omega (arith, room.2, row_le v.step p)))

  -- the columns from j on, where those below i are written
  pub row_block : {q : ℕ} {t : Sums q} {l l₁ l₂ : List Float} (i j : ℕ) → WroteSplit l l₁ ro n i (column_dot l m v n) → Summed t (λ c. column_dot l₁ m v n (j + c)) → WroteSplit l₁ l₂ (ro + j) n q (sum_at t) → j ≤ i → i ≤ j + q → j + q ≤ n
      → WroteSplit l l₂ ro n (j + q) (column_dot l m v n)
  row_block i j w s u p r h = split_append w u p r h (λ c d. s.sum c d ∙ dots_below w (j + c) (omega arith))
