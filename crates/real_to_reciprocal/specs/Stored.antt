-- The force constants in reciprocal space, as the work slice's region from fo on holds them, written in part.
use Rattle.std.specs.Prelude.{◌≡◌, List, ℕ, ◌+◌, ◌*◌, ◌/◌, ◌%◌, ◌<◌, ◌≤◌, Float}
use Rattle.phonon.specs.declared.Anchoring.{Anchoring}
use Rattle.phonon.specs.declared.Complex.{Complex}
use Rattle.phonon.specs.declared.Legs.{Legs}
use Rattle.phonon.specs.Sets.{Forces}
use Rattle.phonon.specs.RealToReciprocal.{Factors, anchored}
use Rattle.planes.specs.Split.{split}
use Rattle.real_to_reciprocal.specs.declared.blocks.FactorPlaces.{FactorPlaces}
use Rattle.planes.specs.Region.{SameOutside}
use Rattle.planes.specs.Layout.{constant_at}

-- from a to below a'
pub record Span (a a' x : ℕ) : Type 0 where
  pub low : a ≤ x
  pub high : x < a'

-- the components from a to below a' of the first leg, from b to below b' of the second, from c to below c' of the third
pub record Box (a a' b b' c c' al bm cn : ℕ) : Type 0 where
  pub leg0 : Span a a' al
  pub leg1 : Span b b' bm
  pub leg2 : Span c c' cn

-- the end of the region
abbrev pub region_end : ℕ → ℕ → ℕ
region_end fo P = fo + 2 * (3 * P * (3 * P) * (3 * P))

-- l' is l but for the region, in which the entries of the set In are those of f, and the others as in l
pub record Stored (l l' : List Float) (fo P : ℕ) (In : ℕ → ℕ → ℕ → Type 0) (f : ℕ → ℕ → ℕ → Complex) : Type 0 where
  pub kept : SameOutside l l' fo (region_end fo P)
  pub inside : (al bm cn : ℕ) → al < 3 * P → bm < 3 * P → cn < 3 * P → In al bm cn → constant_at l' fo P al bm cn ≡ f al bm cn
  pub other : (al bm cn : ℕ) → al < 3 * P → bm < 3 * P → cn < 3 * P → (In al bm cn → ⊥) → constant_at l' fo P al bm cn ≡ constant_at l fo P al bm cn

-- the pre-factors and the phase factors of the three legs, which stand at f
abbrev pub factors_in : List Float → FactorPlaces → ℕ → ℕ → Factors
factors_in l f P S =
    record { pre = split l f.pre P; legs = record { leg0 = split l f.legs.leg0 (P * S); leg1 = split l f.legs.leg1 (P * S); leg2 = split l f.legs.leg2 (P * S) } }

-- where they begin, all of them below e
pub record FactorsBelow (e : ℕ) (f : FactorPlaces) (P S : ℕ) : Type 0 where
  pub pre : f.pre + 2 * P ≤ e
  pub leg0 : f.legs.leg0 + 2 * (P * S) ≤ e
  pub leg1 : f.legs.leg1 + 2 * (P * S) ≤ e
  pub leg2 : f.legs.leg2 + 2 * (P * S) ≤ e

-- three of P atoms
pub record AtomsBelow (P : ℕ) (atoms : Legs ℕ) : Type 0 where
  pub first : atoms.leg0 < P
  pub second : atoms.leg1 < P
  pub third : atoms.leg2 < P

-- entry (al, bm, cn), by the atoms and the directions of its components
unfoldable pub component_at : ℕ → Anchoring → Forces → Factors → ℕ → ℕ → ℕ → Complex
component_at S a c w al bm cn = anchored S c w (al / 3) (bm / 3) (cn / 3) (al % 3) (bm % 3) (cn % 3) a
