-- Worked examples of the exponential, the sine and the cosine, and the occupation, by computation. Assumes nothing.
use mathlib.Core.Path.{◌≡◌, refl}
use Prim.Native.Nat.{ℕ}
use lib.Ieee.{nan, of_bits, add, sub, mul, div, neg, lt, le, of_int, to_unsigned}
use Rattle.phonon.specs.declared.SinCos.{SinCos}
use Rattle.phonon.specs.Number.{bits, f1}
use Rattle.phonon.specs.Exp.{exp}
use Rattle.phonon.specs.Trig.{sin_cos}
use Rattle.phonon.specs.Funcs.{excess, bose_einstein}

-- 1; and at the end of the domain, 709, above it, and below it, -1
pub exp_of_1 : exp f1 ≡ bits 0x4005_BF0A_8B14_576A
unfolding exp of_bits lt le mul add div sub of_int to_unsigned
exp_of_1 = refl

pub exp_of_709 : exp (bits 0x4086_2800_0000_0000) ≡ bits 0x7FDD_422D_2BE5_DC9B
unfolding exp of_bits lt le mul add div sub of_int to_unsigned
exp_of_709 = refl

pub exp_above : exp (bits 0x4086_2800_0000_0001) ≡ bits 0x7FF0_0000_0000_0000
unfolding exp of_bits lt le
exp_above = refl

pub exp_below : exp (bits 0xBFF0_0000_0000_0000) ≡ nan
unfolding exp of_bits lt le
exp_below = refl

abbrev pair : ℕ → ℕ → SinCos
pair s c = record { sin = bits s; cos = bits c }

-- 0
pub turn_of_0 : sin_cos (bits 0) ≡ pair 0 0x3FF0_0000_0000_0000
unfolding sin_cos of_bits le mul add div sub neg of_int
turn_of_0 = refl

-- one in each quadrant: 0.5, 2, 3, 4.5; and -1, of which k is -1
pub turn_0 : sin_cos (bits 0x3FE0_0000_0000_0000) ≡ pair 0x3FDE_AEE8_744B_05F0 0x3FEC_1528_065B_7D50
unfolding sin_cos of_bits le mul add div sub neg of_int
turn_0 = refl

pub turn_1 : sin_cos (bits 0x4000_0000_0000_0000) ≡ pair 0x3FED_18F6_EAD1_B446 0xBFDA_A226_5753_7205
unfolding sin_cos of_bits le mul add div sub neg of_int
turn_1 = refl

pub turn_2 : sin_cos (bits 0x4008_0000_0000_0000) ≡ pair 0x3FC2_1038_6DB6_D55B 0xBFEF_AE04_BE85_E5D2
unfolding sin_cos of_bits le mul add div sub neg of_int
turn_2 = refl

pub turn_3 : sin_cos (bits 0x4012_0000_0000_0000) ≡ pair 0xBFEF_47ED_3DC7_4080 0xBFCA_FB5B_5458_3D6B
unfolding sin_cos of_bits le mul add div sub neg of_int
turn_3 = refl

pub turn_back : sin_cos (bits 0xBFF0_0000_0000_0000) ≡ pair 0xBFEA_ED54_8F09_0CEE 0x3FE1_4A28_0FB5_068C
unfolding sin_cos of_bits le mul add div sub neg of_int
turn_back = refl

-- the occupation of the frequency 1 at the temperatures 1 and 0
pub occupation_of_1 : bose_einstein f1 f1 ≡ bits 0x3FE2_9F8D_9D61_337D
unfolding bose_einstein excess exp of_bits lt le mul add div sub of_int to_unsigned
occupation_of_1 = refl

pub occupation_cold : bose_einstein f1 (bits 0) ≡ bits 0
unfolding bose_einstein excess exp of_bits lt le mul add div sub of_int to_unsigned
occupation_cold = refl
