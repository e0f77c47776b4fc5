-- The eigenvectors of one leg, scaled one atom at a time: the three components of an atom are one run of the planes.
use mathlib.Core.Path.{◌≡◌, sym, ap, ap₂, ◌∙◌}
use mathlib.Core.List.{List}
use Prim.Native.Nat.{ℕ, ◌+◌, ◌*◌, ◌/◌, ◌%◌, ◌<◌, ◌≤◌}
use native.Mathlib.Nat.{add-mul, mul_assoc, mul_comm, div-add-mod', mod-lt}
use native.Mathlib.Omega.{arith}
use lib.ListN.{take, drop}
use lib.Ieee.{Float, nan}
use Rattle.phonon.specs.declared.Complex.{Complex}
use Rattle.phonon.specs.Number.{at}
use Rattle.phonon.specs.Common.{scale, cat}
use Rattle.phonon.specs.ReciprocalToNormal.{column_entry, column}
use Rattle.phonon.proofs.Laws.{ctable_ext, div_of, pair_lt, part_at}
use Rattle.planes.specs.Split.{WroteSplit}
use Rattle.planes.specs.Layout.{column_in}
use Rattle.planes.proofs.RegionLaws.{split_append, split_to}
use Rattle.planes.proofs.Products.{row_le}

-- all atoms' runs are the whole plane
pub runs_all : (np : ℕ) → np * (3 * (3 * np)) ≡ 3 * np * (3 * np)
runs_all np = sym (mul_assoc np 3 (3 * np)) ∙ ap (λ x. x * (3 * np)) (mul_comm np 3)

-- the run of atom a lies in the plane
pub run_le : {a : ℕ} (np : ℕ) → a < np → a * (3 * (3 * np)) + 3 * (3 * np) ≤ 3 * np * (3 * np)
run_le np h = let e = runs_all np in let r = row_le (3 * (3 * np)) h in omega arith

-- component m of band n belongs to atom m / 3
atom_of : (B m n : ℕ) → n < B → (m * B + n) / (3 * B) ≡ m / 3
atom_of B m n h =
    let e : m * B + n ≡ m / 3 * (3 * B) + (m % 3 * B + n) =
    ap (λ x. x * B + n) (sym (div-add-mod' m 3)) ∙ ap (λ x. x + n) (add-mul (m / 3 * 3) (m % 3) B ∙ ap (λ x. x + m % 3 * B) (mul_assoc (m / 3) 3 B))
    ∙ omega arith in
    ap (λ x. x / (3 * B)) e ∙ div_of (3 * B) (pair_lt {n = 3} (mod-lt m (omega arith)) h) (m / 3)

number_of : (B g m n : ℕ) → g * (B * B) + (m * B + n) ≡ (g * B + m) * B + n
number_of B g m n = let e = add-mul (g * B) m B in let f = mul_assoc g B B in omega arith

-- number t of the planes
abbrev pub scaled : List Float → List Float → ℕ → ℕ → ℕ → ℕ → Complex
scaled eig l io np g t = scale (cat eig (g * (3 * np * (3 * np)) + t)) (at (take np (drop io l)) (t / (3 * (3 * np))))

module _ (eig l : List Float) (io np g eo : ℕ) (below : io + np ≤ eo) where
  pub scaled_turn : {l₁ l₂ : List Float} (a : ℕ) → a < np → WroteSplit l l₁ eo (3 * np * (3 * np)) (a * (3 * (3 * np))) (scaled eig l io np g)
      → WroteSplit l₁ l₂ (eo + a * (3 * (3 * np))) (3 * np * (3 * np)) (3 * (3 * np)) (λ t. scale (cat eig (g * (3 * np * (3 * np)) + a * (3 * (3 * np)) + t)) (at l₁ (io + a)))
      → WroteSplit l l₂ eo (3 * np * (3 * np)) ((a + 1) * (3 * (3 * np))) (scaled eig l io np g)
  scaled_turn a h w v =
      split_to (a * (3 * (3 * np)) + 3 * (3 * np)) ((a + 1) * (3 * (3 * np))) (let e = add-mul a 1 (3 * (3 * np)) in omega arith)
      (split_append w v (omega arith) (omega arith) (run_le np h) (λ c p.
      ap₂ (λ x y. scale (cat eig x) y) (omega arith)
      (w.before (io + a) (omega arith) ∙ sym (part_at l io np a nan h) ∙ ap (at (take np (drop io l))) (sym (div_of (3 * (3 * np)) p a)))))

  pub scaled_column : {l' : List Float} → WroteSplit l l' eo (3 * np * (3 * np)) (3 * np * (3 * np)) (scaled eig l io np g)
      → (n : ℕ) → n < 3 * np → column_in l' eo (3 * np) n ≡ column (3 * np) eig (take np (drop io l)) g n
  unfolding column_in column column_entry
  scaled_column w n h =
      ctable_ext (3 * np) _ _ (λ m p. w.inside (m * (3 * np) + n) (pair_lt p h)
      ∙ ap₂ (λ x y. scale (cat eig x) (at (take np (drop io l)) y)) (number_of (3 * np) g m n) (atom_of (3 * np) m n h))
