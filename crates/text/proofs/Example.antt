-- Prints that are computed from the definitions: the listing order of two slots, a refusal, and a NaN. Document 01's own example is `key_u` of the
-- crate key.
use Prim.Native.Nat.{ℕ}
use mathlib.Core.Path.{◌≡◌, refl}
use mathlib.Core.List.{List}
use lib.IntN.{pos}
use lib.Ieee.{nan, to_bits}
use lib.ListN.{replicate, set}
use Rattle.phonon.specs.declared.Anchoring.TheVariants.{Plain}
use Rattle.phonon.specs.declared.Symmetry.TheVariants.{Off}
use Rattle.phonon.specs.Number.{f0}
use Rattle.phonon.specs.Sets.{JoinedSet}
use Rattle.phonon.specs.KeyCases.{cell_u, half, f16, all3, M10}
use Rattle.phonon.proofs.Evaluate.{evaluate}
use Rattle.text.specs.Lines.{ascii, decimal_of, number_then, bits_of, bits_line, refused_line, bands_line, slot_line, total_line, lines_below, slot_lines, column_lines, first_band_lines, slots_text, totals_text, accepted_text, answered_text, set_text}

-- one name that opens the definitions of the print
unfoldable print : ℕ
unfolding to_bits decimal_of number_then bits_of bits_line refused_line bands_line slot_line total_line lines_below slot_lines column_lines first_band_lines slots_text totals_text accepted_text answered_text set_text
print = 0

-- cell U with these flags
abbrev flagged_u : List ℕ → JoinedSet
flagged_u flags = cell_u half Plain Off 0 1 f16 (pos 1) all3 flags f0

-- every slot flagged but (0, 1, 2) and (0, 2, 1): k comes before j
pub listing : set_text (flagged_u (set (set (replicate 27 1) 5 0) 7 0))
    ≡ ascii "bands 3\nslot 0 2 1 0000000000000000\nslot 0 1 2 3fe0000000000000\ntotal 0 4008000000000000\ntotal 1 0000000000000000\ntotal 2 0000000000000000\n"
unfolding evaluate print
listing = refl

pub refusal : set_text M10.set ≡ ascii "refused 3\n"
unfolding evaluate print
refusal = refl

pub nan_bits : bits_line nan ≡ ascii "7ff8000000000000\n"
unfolding print
nan_bits = refl
