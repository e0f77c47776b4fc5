-- The door's tests, in groups as phonon's: true where the set passes, and of those that fail the lowest number is given. Of what is lent for writing they
-- read the lengths alone. Nothing that 5 to 9 speak of is handed in.
use Rattle.std.specs.Prelude.{ℕ, ◌-◌, ◌*◌, Bool, List, [], ◌∷◌, ◌++◌, eqb, ℤ, pos, Float, length}
use Rattle.std.specs.Float.Ieee.{lt}
use Rattle.phonon.specs.declared.Measures.{Measures}
use Rattle.phonon.specs.Number.{f0}
use Rattle.phonon.specs.Tests.{all_true, finite, all_finite, all_within}
use Rattle.phonon.specs.Sets.{bands_of, measures_of}
use Rattle.phonon.specs.Refusal.{Test, lowest, measures_ok, point_tests}
use Rattle.integration_weights.specs.Shapes.{width_of}
use Rattle.integration_weights.specs.Sets.{WeightsSet, slots_in}

-- 2: the bands table and the frequencies, by their lengths
unfoldable pub band_lengths : Measures → ℕ → ℕ → List Bool
band_lengths m bands frequencies = eqb bands m.first ∷ eqb frequencies (m.grid * bands_of m) ∷ []

-- 2: first weights, second weights and flags of n slots, by their lengths
unfoldable pub weight_lengths : ℕ → ℕ → ℕ → ℕ → List Bool
weight_lengths n first second flags = eqb first n ∷ eqb second n ∷ eqb flags n ∷ []

-- 3: band not in 0 to B - 1
unfoldable pub bands_ok : Measures → List ℤ → Bool
bands_ok m bands = all_within (pos 0) (pos (bands_of m - 1)) bands

-- 13, width: not above zero
unfoldable pub width_ok : Float → Bool
width_ok w = lt f0 w

-- ---- the groups, each with its numbers

-- 1 to 4, of the measures, the bands table and the frequencies
abbrev pub band_tests : Measures → List ℤ → List Float → List Test
band_tests m bands frequencies =
    record { number = 1; good = measures_ok m }
    ∷ record { number = 2; good = all_true (band_lengths m (length bands) (length frequencies)) }
    ∷ record { number = 3; good = bands_ok m bands }
    ∷ record { number = 4; good = all_finite frequencies }
    ∷ []

-- 2, of what is written
abbrev pub weight_tests : ℕ → ℕ → ℕ → ℕ → List Test
weight_tests n first second flags = record { number = 2; good = all_true (weight_lengths n first second flags) } ∷ []

-- 4 and 13, of the width
abbrev pub width_tests : Float → List Test
width_tests w = record { number = 4; good = finite w } ∷ record { number = 13; good = width_ok w } ∷ []

-- ---- the door

-- 1 to 4, and 13
abbrev pub weights_tests : WeightsSet → List Test
weights_tests s =
    band_tests (measures_of s.measures) s.bands s.frequencies
    ++ weight_tests (slots_in s) (length s.first) (length s.second) (length s.flags)
    ++ point_tests s.measures.grid s.triplet
    ++ width_tests (width_of s.shape)

unfoldable pub weights_refusal : WeightsSet → ℕ
weights_refusal s = lowest (weights_tests s)
