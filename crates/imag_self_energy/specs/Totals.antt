-- The totals of all positions, from what is read of the slots, and what the sum is handed as the definition's record.
use Rattle.std.specs.Prelude.{List, Float}
use Rattle.phonon.specs.declared.Band.{Band}
use Rattle.phonon.specs.Number.{table}
use Rattle.phonon.specs.ImagSelfEnergy as Ise
use Rattle.phonon.specs.ImagSelfEnergy.{block}
use Rattle.imag_self_energy.specs.declared.Sum.{Sum}
use Rattle.imag_self_energy.specs.declared.slots.Slots.{Slots}
use Rattle.imag_self_energy.specs.Bands.{band_total}

-- seconds and thirds hold the bands of the later legs
abbrev pub band_totals : Slots → List Band → List Band → List Float
band_totals s seconds thirds =
    table s.positions (λ b. band_total s.shared s.bands (block s.weights b) b seconds thirds s.flags.now s.integration.first.now s.integration.second.now s.strengths.now)

abbrev pub sum_of : Sum → Ise.Sum
sum_of s = record {
  weights = s.weights;
  bands = s.bands;
  points = s.points;
  frequencies = s.frequencies.now;
  cutoff = s.cutoff;
  flags = s.flags.now;
  weight = s.bath.weight;
  first = s.integration.first.now;
  second = s.integration.second.now;
}
