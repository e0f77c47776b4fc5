-- The totals as the loops work them out: from the bands of the later legs, held with their occupations, and from block c of the flags and weights.
use Rattle.std.specs.Prelude.{ℕ, ◌*◌, ◌≤◌, ◌≡◌, ◌&&◌, cond, List, map, eqb, Float, get_or, length}
use Rattle.std.specs.Float.{nan}
use Rattle.std.specs.Float.Ieee.{lt}
use Rattle.phonon.specs.declared.Band.{Band}
use Rattle.phonon.specs.declared.Weights.{Weights}
use Rattle.phonon.specs.Number.{◌⊕◌, f0, at, fold}
use Rattle.phonon.specs.Sets.{slot}
use Rattle.phonon.specs.Limits.{entries_of}
use Rattle.phonon.specs.ImagSelfEnergy.{contribution}
use Rattle.funcs.specs.Occupation.{marked}
use Rattle.imag_self_energy.specs.declared.Shared.{Shared}

-- how many bands the arrays of the later legs hold, and those of the bands that are summed with no lists
abbrev pub most_bands : ℕ
most_bands = 24

abbrev pub plain_bands : ℕ
plain_bands = 6

-- entry i of an array of bands
abbrev pub band_at : List Band → ℕ → Band
band_at l i = get_or l i (record { frequency = nan; occupation = nan })

-- set_occupations: a band of frequency f, and the bands of a leg
unfoldable pub band_of : Shared → Float → Band
band_of h f = record { frequency = f; occupation = marked h.temperature h.cutoff f }

unfoldable pub leg_bands : Shared → List Float → List Band
leg_bands h leg = map (band_of h) leg

-- one slot added to a sum, from what it reads: its flag, its two later bands, its weights x and y, its strength v
unfoldable pub add_slot : Shared → ℕ → Band → Band → Float → Float → Float → Float → Float
add_slot h flag p q x y v sum =
    cond (eqb flag 0 && lt h.cutoff p.frequency && lt h.cutoff q.frequency)
    (sum ⊕ contribution h.temperature h.weight p.occupation q.occupation x y v) sum

-- slot (b, j, k) of n bands added to a sum: seconds holds the bands of the second leg, q is band k of the third
unfoldable pub slot_step : Shared → ℕ → ℕ → ℕ → List Band → List ℕ → List Float → List Float → List Float → ℕ → Band → ℕ → Float → Float
slot_step h n c b seconds flags first second strengths k q j sum =
    add_slot h (get_or flags (slot n c j k) 0) (band_at seconds j) q (at first (slot n c j k)) (at second (slot n c j k)) (at strengths (slot n b j k)) sum

-- all j of one k
unfoldable pub column_sum : Shared → ℕ → ℕ → ℕ → List Band → List ℕ → List Float → List Float → List Float → ℕ → Band → Float → Float
column_sum h n c b seconds flags first second strengths k q sum =
    fold n sum (slot_step h n c b seconds flags first second strengths k q)

-- the total of position b
unfoldable pub band_total : Shared → ℕ → ℕ → ℕ → List Band → List Band → List ℕ → List Float → List Float → List Float → Float
band_total h n c b seconds thirds flags first second strengths =
    fold n f0 (λ k. column_sum h n c b seconds flags first second strengths k (band_at thirds k))

-- flags g, weights x and y and strengths v have their lengths, of n bands and F first bands, as the weights' form asks
pub record Sized (w : Weights) (n F : ℕ) (g : List ℕ) (x y v : List Float) : Type 0 where
  pub few : n ≤ most_bands
  pub flags : length g ≡ entries_of w F n
  pub first : length x ≡ entries_of w F n
  pub second : length y ≡ entries_of w F n
  pub strengths : length v ≡ F * n * n
