-- reciprocal_to_normal.rs: one strength, from the force constants in reciprocal space, three phonons and the cutoff, and from nothing else.
use Rattle.std.specs.Prelude.{ℕ, ◌+◌, ◌*◌, ◌/◌, ◌%◌, Bool, ◌||◌, cond, List, Float}
use Rattle.std.specs.Float.Ieee.{le}
use Rattle.phonon.specs.declared.Complex.{Complex}
use Rattle.phonon.specs.Number.{◌⊕◌, ◌⊗◌, ◌⊘◌, f0, f1, at, fold, table}
use Rattle.phonon.specs.Common.{czero, cadd, cmul, scale, is_zero, cat, ctable}
use Rattle.phonon.specs.Root.{root}
use Rattle.phonon.specs.declared.Legs.{Legs}
use Rattle.phonon.specs.Sets.{Phonons}

-- ---- scale_and_transpose

-- the rounded 1.0 over the root of atom a's mass
unfoldable pub inverse_root : List Float → ℕ → Float
inverse_root masses a = f1 ⊘ root (at masses a)

unfoldable pub inverse_roots : ℕ → List Float → List Float
inverse_roots P masses = table P (inverse_root masses)

-- component m of band n's column at grid point g, of B bands: the paper's W(κ, λ) / √m of its √(ħ/2mω)
unfoldable pub column_entry : ℕ → (ℕ → Complex) → (ℕ → Float) → ℕ → ℕ → ℕ → Complex
column_entry B eigenvectors inv g n m = scale (eigenvectors ((g * B + m) * B + n)) (inv (m / 3))

unfoldable pub column : ℕ → List Float → List Float → ℕ → ℕ → List Float
column B eigenvectors inv g n = ctable B (column_entry B (cat eigenvectors) (at inv) g n)

-- a phonon of a leg: a band's frequency, and its eigenvector scaled by the masses
pub record Phonon : Type 0 where
  pub frequency : Float
  pub column : List Float

-- band n at grid point g
unfoldable pub phonon_at : ℕ → List Float → Phonons → ℕ → ℕ → Phonon
phonon_at B inv p g n = record { frequency = at p.frequencies (g * B + n); column = column B p.eigenvectors inv g n }

-- ---- contract_fc3_e0, which contract_fc3_e0_slab works for three rows at a time

-- where entry (al, bm, cn) of the force constants is: al = 3 * atom + component, and so on
abbrev pub place : ℕ → ℕ → ℕ → ℕ → ℕ
place P al bm cn = ((al / 3 * P + bm / 3) * P + cn / 3) * 27 + al % 3 * 9 + bm % 3 * 3 + cn % 3

-- s and x times e, a first-leg entry, which is passed if zero in both parts
unfoldable pub add_unless_zero : Complex → Complex → Complex → Complex
add_unless_zero e x s = cond (is_zero e) s (cadd s (cmul x e))

unfoldable pub contract_turn : ℕ → (ℕ → Complex) → (ℕ → Complex) → ℕ → ℕ → ℕ → Complex → Complex
contract_turn P x e bm cn al s = add_unless_zero (e al) (x (place P al bm cn)) s

-- entry bm * B + cn
unfoldable pub contract_entry : ℕ → (ℕ → Complex) → (ℕ → Complex) → ℕ → Complex
contract_entry P x e t = fold (3 * P) czero (contract_turn P x e (t / (3 * P)) (t % (3 * P)))

unfoldable pub contract : ℕ → List Float → List Float → List Float
contract P constants col = ctable (3 * P * (3 * P)) (contract_entry P (cat constants) (cat col))

-- ---- cmplx_dot_partial4: four partial sums, joined (0 + 1) + (2 + 3), the remainder after

unfoldable pub lane : ℕ → (ℕ → Complex) → (ℕ → Complex) → ℕ → Complex
lane n a b t = fold (n / 4) czero (λ c s. cadd s (cmul (a (4 * c + t)) (b (4 * c + t))))

unfoldable pub dot : ℕ → (ℕ → Complex) → (ℕ → Complex) → Complex
dot n a b =
    fold (n % 4) (cadd (cadd (lane n a b 0) (lane n a b 1)) (cadd (lane n a b 2) (lane n a b 3)))
    (λ r s. cadd s (cmul (a (4 * (n / 4) + r)) (b (4 * (n / 4) + r))))

-- ---- eval_v_squared_at_b0_q2

-- document 01's row contraction: entry bm is row bm of the contracted matrix times the third leg's column
unfoldable pub row_entry : ℕ → (ℕ → Complex) → (ℕ → Complex) → ℕ → Complex
row_entry B matrix col bm = dot B (λ i. matrix (bm * B + i)) col

unfoldable pub rows : ℕ → List Float → List Float → List Float
rows B matrix col = ctable B (row_entry B (cat matrix) (cat col))

-- leg 0 is contracted first, then leg 2, then leg 1
unfoldable pub amplitude : ℕ → List Float → Legs Phonon → Complex
amplitude P constants s =
    dot (3 * P) (cat (rows (3 * P) (contract P constants s.leg0.column) s.leg2.column)) (cat s.leg1.column)

unfoldable pub squared : Complex → Float
squared a = a.re ⊗ a.re ⊕ a.im ⊗ a.im

-- at or below the cutoff
abbrev pub cut : Float → Float → Bool
cut cutoff f = le f cutoff

unfoldable pub any_cut : Float → Float → Float → Float → Bool
any_cut cutoff x y z = cut cutoff x || cut cutoff y || cut cutoff z

-- from the amplitude and the three frequencies: the paper's |Φ|² without its constants, where 1/(x y z) is what the three √(ħ/2mω) leave, f for ω; the paper has no cutoff
unfoldable pub strength_from : Float → Complex → Float → Float → Float → Float
strength_from cutoff a x y z = cond (any_cut cutoff x y z) f0 (squared a ⊘ (x ⊗ y ⊗ z))

unfoldable pub strength : ℕ → List Float → Legs Phonon → Float → Float
strength P constants s cutoff =
    strength_from cutoff (amplitude P constants s) s.leg0.frequency s.leg1.frequency s.leg2.frequency
