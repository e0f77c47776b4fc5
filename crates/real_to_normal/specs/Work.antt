-- The work buffer of one triplet, of P atoms, S supercell atoms and B = 3 * P bands: where each stage's numbers lie, and what they are.
--     inverse roots of the masses                  P
--     scaled eigenvectors of the three legs        2 * B * B each
--     phase factors of the three legs              2 * P * S each
--     pre-factors                                  2 * P
--     force constants in reciprocal space          2 * B * B * B
--     contracted matrix, its row, amplitudes       2 * B * B + 4 * B
--     full listing of one leg order                B * B * B
use Rattle.std.specs.Prelude.{◌≡◌, true, cond, List, ℕ, ◌+◌, ◌-◌, ◌*◌, ◌/◌, ◌%◌, ◌<◌, ◌≤◌, ℤ, pos, Float, length, get_or}
use Rattle.phonon.specs.declared.Measures.{Measures}
use Rattle.phonon.specs.declared.Symmetry.{Symmetry}
use Rattle.phonon.specs.declared.Symmetry.TheVariants.{Off, Symmetrized}
use Rattle.phonon.specs.Number.{◌⊕◌, ◌⊘◌, f0, f6, index, int, flagged, fold}
use Rattle.phonon.specs.declared.Legs.{Legs}
use Rattle.phonon.specs.Sets.{Phonons, Tables, part}
use Rattle.phonon.specs.Tests.{all_within}
use Rattle.phonon.specs.Interaction.{leg, exchanged}
use Rattle.phonon.specs.RealToReciprocal.{phase_factors, reciprocal}
use Rattle.phonon.specs.ReciprocalToNormal.{inverse_roots, column, Phonon, phonon_at, strength}
use Rattle.planes.specs.Layout.{column_in, phonon_in, numbers_in}
use Rattle.real_to_reciprocal.specs.Shape.{Anchored, Shaped}

-- the scaled eigenvectors of leg x
abbrev pub columns_at : ℕ → ℕ → ℕ
columns_at P x = P + x * (2 * (3 * P * (3 * P)))

-- the phase factors of leg x
abbrev pub factors_at : ℕ → ℕ → ℕ → ℕ
factors_at P S x = columns_at P 3 + x * (2 * (P * S))

abbrev pub pre_at : ℕ → ℕ → ℕ
pre_at P S = factors_at P S 3

abbrev pub constants_at : ℕ → ℕ → ℕ
constants_at P S = pre_at P S + 2 * P

abbrev pub scratch_at : ℕ → ℕ → ℕ
scratch_at P S = constants_at P S + 2 * (3 * P * (3 * P * (3 * P)))

abbrev pub listing_at : ℕ → ℕ → ℕ
listing_at P S = scratch_at P S + 2 * (3 * P * (3 * P)) + 4 * (3 * P)

abbrev pub end_at : ℕ → ℕ → ℕ
end_at P S = listing_at P S + 3 * P * (3 * P * (3 * P))

-- where the numbers of the legs end, and all numbers of a set of these measures
abbrev pub legs_end : Measures → ℕ
legs_end m = pre_at m.atoms m.supercell

abbrev pub work_end : Measures → ℕ
work_end m = end_at m.atoms m.supercell

-- where the numbers of each leg begin, of `size` numbers a leg from `base` on
abbrev pub places : ℕ → ℕ → Legs ℕ
places base size = record { leg0 = base; leg1 = base + size; leg2 = base + 2 * size }

-- ---- what the work on a triplet requires

-- the counts are small, and the tables of the atoms have their shapes
pub record Shapes (t : Tables) : Type 0 where
  pub atoms : t.measures.atoms ≤ 256
  pub supercell : t.measures.supercell ≤ 256
  pub anchored : Anchored t.crystal.vectors t.crystal.multiplicity t.crystal.forces.p2s t.measures.atoms
  pub shaped : Shaped t.measures.atoms t.measures.supercell t.crystal.forces

-- the frequencies of the legs' grid points, of B bands each, are within the slice
pub record Frequencies (B : ℕ) (frequencies : List Float) (g : Legs ℕ) : Type 0 where
  pub leg0 : (g.leg0 + 1) * B ≤ length frequencies
  pub leg1 : (g.leg1 + 1) * B ≤ length frequencies
  pub leg2 : (g.leg2 + 1) * B ≤ length frequencies

-- their eigenvectors
pub record Eigenvectors (B : ℕ) (eigenvectors : List Float) (g : Legs ℕ) : Type 0 where
  pub leg0 : 2 * ((g.leg0 + 1) * (B * B)) ≤ length eigenvectors
  pub leg1 : 2 * ((g.leg1 + 1) * (B * B)) ≤ length eigenvectors
  pub leg2 : 2 * ((g.leg2 + 1) * (B * B)) ≤ length eigenvectors

-- the number of slots
abbrev pub slot_count : Tables → ℕ
slot_count t = length t.bands * (3 * t.measures.atoms) * (3 * t.measures.atoms)

-- flags f and strengths v have an entry for each slot, and the bands are bands
pub record Slots (t : Tables) (f : List ℕ) (v : List Float) : Type 0 where
  pub strengths : length v ≡ slot_count t
  pub flags : length f ≡ slot_count t
  pub bands : all_within (pos 0) (pos (3 * t.measures.atoms - 1)) t.bands ≡ true

-- a leg order
pub record Order (order : List ℕ) : Type 0 where
  pub leg0 : get_or order 0 0 < 3
  pub leg1 : get_or order 1 0 < 3
  pub leg2 : get_or order 2 0 < 3

-- ---- what the work buffer holds

-- the slice l holds the phase factors of the three legs, whose q are q
pub record Factored (l : List Float) (t : Tables) (q : Legs (List Float)) : Type 0 where
  pub factors : (x : ℕ) → x < 3
      → numbers_in l (factors_at t.measures.atoms t.measures.supercell x) (t.measures.atoms * t.measures.supercell) (t.measures.atoms * t.measures.supercell)
      ≡ phase_factors t.measures.atoms t.measures.supercell t.crystal.vectors t.crystal.multiplicity (leg q x)

-- and the scaled eigenvectors, of the legs' grid points g
pub record Prepared (l : List Float) (t : Tables) (g : Legs ℕ) (q : Legs (List Float)) : Type 0 where
  pub columns : (x n : ℕ) → x < 3 → n < 3 * t.measures.atoms
      → column_in l (columns_at t.measures.atoms x) (3 * t.measures.atoms) n
      ≡ column (3 * t.measures.atoms) t.phonons.eigenvectors (inverse_roots t.measures.atoms t.crystal.masses) (leg g x) n
  pub factors : Factored l t q

-- the force constants in reciprocal space at three q
abbrev pub reciprocal_of : Tables → Legs (List Float) → List Float
reciprocal_of t = reciprocal t.measures.atoms t.measures.supercell t.settings.anchoring t.crystal

-- band n of leg x, as the slice l holds it: the legs' grid points are g
abbrev pub leg_in : List Float → ℕ → List Float → Legs ℕ → ℕ → ℕ → Phonon
leg_in l P frequencies g x n = phonon_in l (columns_at P x) (3 * P) (part (3 * P) (leg g x) frequencies) n

-- the bands of slot number m, by legs
abbrev pub bands_of_slot : ℕ → List ℤ → ℕ → Legs ℕ
bands_of_slot P bands m = record {
  leg0 = index (int bands (m / (3 * P) / (3 * P)));
  leg1 = m / (3 * P) % (3 * P);
  leg2 = m % (3 * P);
}

-- the phonons of slot number m, with the legs in the order x0, x1, x2
abbrev pub slot_in : List Float → ℕ → List Float → Legs ℕ → List ℤ → ℕ → ℕ → ℕ → ℕ → Legs Phonon
slot_in l P frequencies g bands x0 x1 x2 m = record {
  leg0 = leg_in l P frequencies g x0 (leg (bands_of_slot P bands m) x0);
  leg1 = leg_in l P frequencies g x1 (leg (bands_of_slot P bands m) x1);
  leg2 = leg_in l P frequencies g x2 (leg (bands_of_slot P bands m) x2);
}

-- slot number m's sum with a sixth of its strength in leg order o added, as the slice l holds the legs
unfoldable pub sixth_of : Tables → Legs (List Float) → List Float → Legs ℕ → ℕ → ℕ → Float → Float
sixth_of t q l g m o sum =
    sum ⊕ strength t.measures.atoms (reciprocal_of t (exchanged o q)) (exchanged o (slot_in l t.measures.atoms t.phonons.frequencies g t.bands 0 1 2 m)) t.settings.cutoff ⊘ f6

-- ---- the slots, from the definitions alone

-- the phonons of slot number m, of the legs' grid points g
abbrev pub slot_phonons : ℕ → List Float → Phonons → Legs ℕ → List ℤ → ℕ → Legs Phonon
slot_phonons P inv p g bands m = record {
  leg0 = phonon_at (3 * P) inv p g.leg0 (index (int bands (m / (3 * P) / (3 * P))));
  leg1 = phonon_at (3 * P) inv p g.leg1 (m / (3 * P) % (3 * P));
  leg2 = phonon_at (3 * P) inv p g.leg2 (m % (3 * P));
}

-- what stands in slot number m after the work, where `before` stood before
unfoldable pub slot_value : Symmetry → (Legs (List Float) → List Float) → ℕ → Legs (List Float) → Legs Phonon → Float → List ℕ → Float → ℕ → Float
slot_value Off constants P q s cutoff flags before m = cond (flagged flags m) before (strength P (constants q) s cutoff)
slot_value Symmetrized constants P q s cutoff flags before m =
    cond (flagged flags m) f0 (fold 6 f0 (λ o sum. sum ⊕ strength P (constants (exchanged o q)) (exchanged o s) cutoff ⊘ f6))
