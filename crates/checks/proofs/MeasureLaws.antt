-- Measures within their limits: no size that they fix wraps, nor the slots of a list; and what the answer of their check tells.
use Prim.Native.Nat.{ℕ, ◌*◌, ◌≤◌}
use mathlib.Core.Bool.{Bool, true, false}
use mathlib.Core.Path.{◌≡◌, refl}
use native.Mathlib.Omega.{arith}
use native.Mathlib.Nat.{mul-le-mul}
use Rattle.phonon.specs.declared.Measures.{Measures}
use Rattle.phonon.specs.declared.Form.{Form}
use Rattle.phonon.specs.declared.Sizes.{Sizes}
use Rattle.phonon.specs.declared.Refusal.{Refusal}
use Rattle.phonon.specs.declared.Refusal.TheVariants.{Measure}
use Rattle.std.specs.Prelude.{Ok, Err}
use Rattle.phonon.specs.Limits.{list_ok, sizes_of}
use Rattle.phonon.specs.Refusal.{measures_ok}
use Rattle.phonon.proofs.Accepted.{measured_in, measured_facts}
use Rattle.checks.specs.Small.{Small}
use Rattle.checks.specs.Answers.{with_sizes, measured_of}

-- document 01's limits are no wider
pub small : (m : Measures) → measures_ok m ≡ true → Small 65536 m
small m e =
    let h = measured_facts m e in
    record { atoms = omega arith; supercell = omega arith; first = omega arith; grid = omega arith; vectors = omega arith }

-- ---- the slots of a list: the bounds are wider than document 01's limits

pub list_small : (n : ℕ) → list_ok n ≡ true → n ≤ 1000000
list_small n e = omega (arith, measured_in 1 _ n e)

pub list_slots : (m : Measures) (form : Form) {z : Sizes} {n : ℕ} → measures_ok m ≡ true → z ≡ sizes_of m form → n ≤ 1000000 → n * z.slots ≤ 1000000 * (3000 * 3000 * 3000)
unfolding sizes_of
list_slots m form e p h =
    let k = measured_facts m e in
    let first : m.first ≤ 3000 = omega arith in
    let bands : 3 * m.atoms ≤ 3000 = omega arith in
    rw p (mul-le-mul h (mul-le-mul (mul-le-mul first bands) bands))

-- ---- what the check of the measures told

within_by : (b : Bool) (z y : Sizes) → with_sizes b y ≡ Ok z → (b ≡ true) × (z ≡ y)
within_by true z y e = (refl, cc)
within_by false z y e = absurd cc

pub within_told : (m : Measures) (form : Form) {z : Sizes} → measured_of m form ≡ Ok z → (measures_ok m ≡ true) × (z ≡ sizes_of m form)
unfolding measured_of
within_told m form {z} e = within_by (measures_ok m) z (sizes_of m form) e

beyond_by : (b : Bool) (y : Sizes) (r : Refusal) → with_sizes b y ≡ Err r → (b ≡ false) × (r ≡ Measure)
beyond_by true y r e = absurd cc
beyond_by false y r e = (refl, cc)

pub beyond_told : (m : Measures) (form : Form) {r : Refusal} → measured_of m form ≡ Err r → (measures_ok m ≡ false) × (r ≡ Measure)
unfolding measured_of
beyond_told m form {r} e = beyond_by (measures_ok m) (sizes_of m form) r e

-- ---- no product of the measures wraps, by bounds that are wider than document 01's

pub record Room (m : Measures) : Type 0 where
  pub some : 1 ≤ 3 * m.atoms
  pub bands : 3 * m.atoms ≤ 3000
  pub frequencies : m.grid * (3 * m.atoms) ≤ 1000000 * 3000
  pub row : m.first * (3 * m.atoms) ≤ 3000 * 3000
  pub slots : m.first * (3 * m.atoms) * (3 * m.atoms) ≤ 3000 * 3000 * 3000

pub room : (m : Measures) → measures_ok m ≡ true → Room m
room m e =
    let h = measured_facts m e in
    let b : 3 * m.atoms ≤ 3000 = omega (arith, h.atoms_most) in
    let f : m.first ≤ 3000 = omega (arith, h.first_most) in
    let g : m.grid ≤ 1000000 = omega (arith, h.grid_most) in
    record { some = omega (arith, h.atoms); bands = b; frequencies = mul-le-mul g b; row = mul-le-mul f b; slots = mul-le-mul (mul-le-mul f b) b }
