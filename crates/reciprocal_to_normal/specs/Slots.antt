-- Slots that a loop visits, in a list that is indexed by slot number: what stands in them, and which are visited.
use Rattle.std.specs.Prelude.{◌≡◌, List, Bool, cond, ℕ, ◌+◌, ◌*◌, ◌/◌, ◌%◌, ◌<◌, ◌≤◌, length, Float}
use Rattle.phonon.specs.declared.Complex.{Complex}
use Rattle.phonon.specs.Number.{at}
use Rattle.phonon.specs.ReciprocalToNormal.{strength_from, strength}
use Rattle.planes.specs.Split.{split}
use Rattle.planes.specs.Layout.{constants_in, phonon_in}
use Rattle.reciprocal_to_normal.specs.declared.places.Planes.{Planes}
use Rattle.reciprocal_to_normal.specs.declared.places.Vector.{Vector}
use Rattle.reciprocal_to_normal.specs.declared.plane.Plane.{Plane}
use Rattle.reciprocal_to_normal.specs.declared.plane.Column.{Column}
use Rattle.reciprocal_to_normal.specs.Arrays.{amplitude_from}

-- of the first N entries, those in D are visited: entry n is v n, or what it was where p n says that it is passed. The others are as before.
pub record Visited (l l' : List Float) (p : ℕ → Bool) (v : ℕ → Float) (N : ℕ) (D : ℕ → Type 0) : Type 0 where
  pub size : length l' ≡ length l
  pub done : (n : ℕ) → n < N → D n → at l' n ≡ cond (p n) (at l n) (v n)
  pub rest : (n : ℕ) → n < N → (D n → ⊥) → at l' n ≡ at l n

-- slot n is (b, j, k), of B bands
unfoldable pub b_of : ℕ → ℕ → ℕ
b_of B n = n / B / B

unfoldable pub j_of : ℕ → ℕ → ℕ
j_of B n = n / B % B

unfoldable pub k_of : ℕ → ℕ → ℕ
k_of B n = n % B

-- the slots before (b, k, j) in listing order, of first band b and third-leg band k; of first band b; and of all
abbrev pub InColumn : ℕ → ℕ → ℕ → ℕ → ℕ → Type 0
InColumn B b k j n = (b_of B n ≡ b) × (k_of B n ≡ k) × (j_of B n < j)

abbrev pub InPlane : ℕ → ℕ → ℕ → ℕ → Type 0
InPlane B b k n = (b_of B n ≡ b) × (k_of B n < k)

abbrev pub InAll : ℕ → ℕ → ℕ → Type 0
InAll B b n = b_of B n < b

-- the column's slots lie below N
abbrev pub InSlots : Column → ℕ → Type 0
InSlots c N = (c.bands ≤ 3000) × (c.k < c.bands) × ((c.b + 1) * c.bands * c.bands ≤ N)

-- the strength in slot n of a first band of frequency x, whose contracted matrix is m; legs 1 and 2 have the arrays e1, e2 and frequencies f1, f2
unfoldable pub plane_slot : ℕ → (ℕ → Complex) → (ℕ → Complex) → (ℕ → Complex) → (ℕ → Float) → (ℕ → Float) → Float → Float → ℕ → Float
plane_slot B m e1 e2 f1 f2 x cutoff n = strength_from cutoff (amplitude_from B m e1 e2 (j_of B n) (k_of B n)) x (f1 (j_of B n)) (f2 (k_of B n))

-- ---- a plane

abbrev pub bands_of : Plane → ℕ
bands_of p = 3 * p.atoms

-- the matrix, all bands of leg 1, and the row
abbrev pub matrix_of : Plane → Planes
matrix_of p = record { at = p.matrix; apart = bands_of p * bands_of p }

abbrev pub legs1_of : Plane → Planes
legs1_of p = record { at = p.leg1; apart = bands_of p * bands_of p }

abbrev pub row_of : Plane → Vector
row_of p = record { at = p.row; apart = bands_of p; step = 1 }

-- bands j and k of the later legs
abbrev pub leg1_of : Plane → ℕ → Vector
leg1_of p j = record { at = p.leg1 + j; apart = bands_of p * bands_of p; step = bands_of p }

abbrev pub leg2_of : Plane → ℕ → Vector
leg2_of p k = record { at = p.leg2 + k; apart = bands_of p * bands_of p; step = bands_of p }

-- the strength of bands j and k, of amplitude a
abbrev pub strength_in : Plane → Complex → ℕ → ℕ → Float
strength_in p a j k = strength_from p.cutoff a p.x (at p.freqs1.now j) (at p.freqs2.now k)

-- from what the work buffer l holds: the amplitude of bands j and k, and the strength in slot n
abbrev pub amplitude_in : List Float → Plane → ℕ → ℕ → Complex
amplitude_in l p = amplitude_from (bands_of p) (split l p.matrix (bands_of p * bands_of p)) (split l p.leg1 (bands_of p * bands_of p)) (split l p.leg2 (bands_of p * bands_of p))

abbrev pub slot_in : List Float → Plane → ℕ → Float
slot_in l p =
    plane_slot (bands_of p) (split l p.matrix (bands_of p * bands_of p)) (split l p.leg1 (bands_of p * bands_of p)) (split l p.leg2 (bands_of p * bands_of p)) (at p.freqs1.now) (at p.freqs2.now) p.x p.cutoff

-- the strength in slot n, of what the work buffer l holds; `band` names the first leg's bands
unfoldable pub slot_strength : ℕ → List Float → ℕ → ℕ → ℕ → ℕ → List Float → List Float → List Float → (ℕ → ℕ) → Float → ℕ → Float
slot_strength P l fo e0 e1 e2 freqs0 freqs1 freqs2 band cutoff n =
    strength P (constants_in l fo P) (record {
      leg0 = phonon_in l e0 (3 * P) freqs0 (band (b_of (3 * P) n));
      leg1 = phonon_in l e1 (3 * P) freqs1 (j_of (3 * P) n);
      leg2 = phonon_in l e2 (3 * P) freqs2 (k_of (3 * P) n);
    }) cutoff
