-- Worked examples of the root, by computation: of 4, of 2, and of the smallest f64. Assumes nothing.
use Rattle.std.proofs.Common.{◌≡◌, refl}
use lib.Ieee.{of_bits, units}
use Rattle.phonon.specs.Number.{bits}
use Rattle.phonon.specs.Root.{root}

pub root_of_4 : root (bits 0x4010_0000_0000_0000) ≡ bits 0x4000_0000_0000_0000
unfolding root of_bits units
root_of_4 = refl

pub root_of_2 : root (bits 0x4000_0000_0000_0000) ≡ bits 0x3FF6_A09E_667F_3BCD
unfolding root of_bits units
root_of_2 = refl

pub root_of_smallest : root (bits 1) ≡ bits 0x1E60_0000_0000_0000
unfolding root of_bits units
root_of_smallest = refl
