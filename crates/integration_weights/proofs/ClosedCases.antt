-- Closed cases: each shape inside, at and outside its edge, what underflows and overflows, slots, and the door on a small set. Each is computed; the bits are
-- the oracle's.
use Prim.Native.Nat.{ℕ}
use mathlib.Core.Path.{◌≡◌, refl}
use mathlib.Core.List.{List, [], ◌∷◌, map}
use lib.IntN.{pos, negsuc}
use lib.Ieee.{Float, nan}
use lib.ListN.{replicate}
use Rattle.phonon.specs.Number.{bits}
use Rattle.phonon.proofs.Evaluate.{evaluate}
use Rattle.integration_weights.specs.declared.Shape.{Shape}
use Rattle.integration_weights.specs.declared.Shape.TheVariants.{Gaussian, Lorentzian, Box}
use Rattle.integration_weights.specs.Shapes.{magnitude, bell, gaussian_at, lorentzian_at, box_at, shape_at, width_of}
use Rattle.integration_weights.specs.Weights.{SlotWeights, flag_of, weights_from, slot_weights}
use Rattle.integration_weights.specs.Sets.{WeightsSet, slot_of}
use Rattle.integration_weights.specs.Refusal.{band_lengths, weight_lengths, bands_ok, width_ok, weights_refusal}
use Rattle.integration_weights.specs.Doors.{WeightsOutcome, weights_leaves, weights_outcome}

unfoldable computed : ℕ
unfolding evaluate magnitude bell gaussian_at lorentzian_at box_at shape_at width_of flag_of weights_from slot_weights slot_of band_lengths weight_lengths bands_ok width_ok weights_refusal weights_leaves weights_outcome
computed = 0

-- ---- the shapes

record AtDistance : Type 0 where
  shape : Shape
  distance : Float
  value : Float

-- at 0, 2 widths on either side, exactly 8 widths and the next number; 7 widths of 1e-300; and of the least number, where c/w is infinite
abbrev gaussians : List AtDistance
gaussians =
    record { shape = Gaussian (bits 0x3fd0000000000000); distance = bits 0x0000000000000000; value = bits 0x3ff9884533d43651 }
    ∷ record { shape = Gaussian (bits 0x3fd0000000000000); distance = bits 0x3fe0000000000000; value = bits 0x3fcba4b436e83ad6 }
    ∷ record { shape = Gaussian (bits 0x3fd0000000000000); distance = bits 0xbfe0000000000000; value = bits 0x3fcba4b436e83ad6 }
    ∷ record { shape = Gaussian (bits 0x3fd0000000000000); distance = bits 0x4000000000000000; value = bits 0x3d16c0df3a094836 }
    ∷ record { shape = Gaussian (bits 0x3fd0000000000000); distance = bits 0x4000000000000001; value = bits 0x0000000000000000 }
    ∷ record { shape = Gaussian (bits 0x01a56e1fc2f8f359); distance = bits 0x01d2c05bca99d4ee; value = bits 0x7bedfebabc78cae4 }
    ∷ record { shape = Gaussian (bits 0x0000000000000001); distance = bits 0x0000000000000000; value = bits 0x7ff0000000000000 }
    ∷ []

-- at 3 half-widths and at 0; of the least number, whose square is 0; of 1e-200, whose square is 0 too, at 1; of 1e160, whose square is infinite
abbrev lorentzians : List AtDistance
lorentzians =
    record { shape = Lorentzian (bits 0x3fe0000000000000); distance = bits 0x3ff8000000000000; value = bits 0x3fb04c26be3b06cf }
    ∷ record { shape = Lorentzian (bits 0x3fe0000000000000); distance = bits 0x0000000000000000; value = bits 0x3fe45f306dc9c883 }
    ∷ record { shape = Lorentzian (bits 0x0000000000000001); distance = bits 0x0000000000000000; value = bits 0x7ff0000000000000 }
    ∷ record { shape = Lorentzian (bits 0x16687e92154ef7ac); distance = bits 0x3ff0000000000000; value = bits 0x164f2ff041caa695 }
    ∷ record { shape = Lorentzian (bits 0x6126c2d4256ffcc3); distance = bits 0x0000000000000000; value = bits 0x0000000000000000 }
    ∷ []

-- at its edge, beyond it, inside; of the largest number, twice which is infinite: such a box is 0 everywhere; and of the least number
abbrev boxes : List AtDistance
boxes =
    record { shape = Box (bits 0x3fd0000000000000); distance = bits 0xbfd0000000000000; value = bits 0x4000000000000000 }
    ∷ record { shape = Box (bits 0x3fd0000000000000); distance = bits 0xbfd0000000000001; value = bits 0x0000000000000000 }
    ∷ record { shape = Box (bits 0x3fd0000000000000); distance = bits 0x0000000000000000; value = bits 0x4000000000000000 }
    ∷ record { shape = Box (bits 0x7fefffffffffffff); distance = bits 0x0000000000000000; value = bits 0x0000000000000000 }
    ∷ record { shape = Box (bits 0x0000000000000001); distance = bits 0x0000000000000000; value = bits 0x7ff0000000000000 }
    ∷ []

pub gaussians_worked : map (λ c. shape_at c.shape c.distance) gaussians ≡ map (λ c. c.value) gaussians
unfolding computed
gaussians_worked = refl

pub lorentzians_worked : map (λ c. shape_at c.shape c.distance) lorentzians ≡ map (λ c. c.value) lorentzians
unfolding computed
lorentzians_worked = refl

pub boxes_worked : map (λ c. shape_at c.shape c.distance) boxes ≡ map (λ c. c.value) boxes
unfolding computed
boxes_worked = refl

-- ---- slots

record OfThree : Type 0 where
  shape : Shape
  x : Float
  y : Float
  z : Float
  weights : SlotWeights

-- The fourth has three infinite shapes: its second weight is a NaN, and kept. The last three are flagged by what underflows and by what overflows.
abbrev slots : List OfThree
slots =
    record { shape = Lorentzian (bits 0x3fe0000000000000); x = bits 0x4010000000000000; y = bits 0x3ff0000000000000; z = bits 0x4000000000000000; weights = record { first = bits 0x3fc04c26be3b06cf; second = bits 0x3f86543184df1602; flag = 0 } }
    ∷ record { shape = Gaussian (bits 0x3fd0000000000000); x = bits 0x4010000000000000; y = bits 0x3ff8000000000000; z = bits 0x4002000000000000; weights = record { first = bits 0x3feef8e58e331738; second = bits 0x0000000000000000; flag = 0 } }
    ∷ record { shape = Gaussian (bits 0x3fd0000000000000); x = bits 0x4010000000000000; y = bits 0x3ff0000000000000; z = bits 0x4008000000000000; weights = record { first = bits 0x3ff9884533d43651; second = bits 0x3d16c0df3a094836; flag = 0 } }
    ∷ record { shape = Box (bits 0x0000000000000001); x = bits 0x0000000000000000; y = bits 0x0000000000000000; z = bits 0x0000000000000000; weights = record { first = bits 0x7ff0000000000000; second = nan; flag = 0 } }
    ∷ record { shape = Lorentzian (bits 0x16687e92154ef7ac); x = bits 0x3ff0000000000000; y = bits 0x4000000000000000; z = bits 0x4010000000000000; weights = record { first = bits 0x1603f5b87c06d104; second = bits 0x164bb8d58fd09412; flag = 0 } }
    ∷ record { shape = Lorentzian (bits 0x01a56e1fc2f8f359); x = bits 0x4008000000000000; y = bits 0x4000000000000000; z = bits 0x4010000000000000; weights = record { first = bits 0x01584105b6dcfc1b; second = bits 0x018a31be7dcff18d; flag = 0 } }
    ∷ record { shape = Lorentzian (bits 0x01a56e1fc2f8f359); x = bits 0x4415af1d78b58c40; y = bits 0x3ff0000000000000; z = bits 0x3ff0000000000000; weights = record { first = bits 0x0000000000000000; second = bits 0x0000000000000000; flag = 1 } }
    ∷ record { shape = Lorentzian (bits 0x6126c2d4256ffcc3); x = bits 0x4010000000000000; y = bits 0x3ff0000000000000; z = bits 0x4000000000000000; weights = record { first = bits 0x0000000000000000; second = bits 0x0000000000000000; flag = 1 } }
    ∷ record { shape = Box (bits 0x7fefffffffffffff); x = bits 0x4010000000000000; y = bits 0x3ff0000000000000; z = bits 0x4000000000000000; weights = record { first = bits 0x0000000000000000; second = bits 0x0000000000000000; flag = 1 } }
    ∷ []

pub slots_worked : map (λ c. slot_weights c.shape c.x c.y c.z) slots ≡ map (λ c. c.weights) slots
unfolding computed
slots_worked = refl

-- ---- the door: one atom, three grid points, the bands 2 and 0 of the first leg; the lent slices hold what no result is

abbrev set : Shape → WeightsSet
set s = record {
  measures = record { atoms = 1; first = 2; grid = 3 };
  shape = s;
  triplet = pos 2 ∷ pos 0 ∷ pos 1 ∷ [];
  bands = pos 2 ∷ pos 0 ∷ [];
  frequencies = bits 0x3ff0000000000000 ∷ bits 0x4000000000000000 ∷ bits 0x4010000000000000 ∷ bits 0x3ff8000000000000 ∷ bits 0x4004000000000000 ∷ bits 0x400c000000000000 ∷ bits 0x4008000000000000 ∷ bits 0x4012000000000000 ∷ bits 0x4014000000000000 ∷ [];
  first = replicate 18 nan;
  second = replicate 18 nan;
  flags = replicate 18 7;
}

pub door_gaussian : weights_outcome (set (Gaussian (bits 0x3fe0000000000000))) ≡ record {
  answer = 0;
  first = bits 0x3ec8f16964c8fd3f ∷ bits 0x3f8227213fd77689 ∷ bits 0x3fdef8e58e331738 ∷ bits 0x3f8227213fd77689 ∷ bits 0x3fdef8e58e331738 ∷ bits 0x3fdef8e58e331738 ∷ bits 0x3fdef8e58e331738 ∷ bits 0x3f8227213fd77689 ∷ bits 0x3ec8f16964c8fd3f ∷ bits 0x3fdef8e58e331738 ∷ bits 0x3fdef8e58e331738 ∷ bits 0x3f8227213fd77689 ∷ bits 0x3fdef8e58e331738 ∷ bits 0x3f8227213fd77689 ∷ bits 0x3ec8f16964c8fd3f ∷ bits 0x3ec8f16964c8fd3f ∷ bits 0x3db41663f31db14b ∷ bits 0x0000000000000000 ∷ [];
  second = bits 0x0000000000000000 ∷ bits 0x3db41663f31db14b ∷ bits 0x3ec8f16964c8fd3f ∷ bits 0x0000000000000000 ∷ bits 0x0000000000000000 ∷ bits 0x3db41663f31db14b ∷ bits 0xbec8f16964c8fd3f ∷ bits 0xbdb41663f31db14b ∷ bits 0x0000000000000000 ∷ bits 0x3ec8f15f599703b0 ∷ bits 0x3f8227213fd77689 ∷ bits 0x3fdef8e58e331738 ∷ bits 0xbec8f15f599703b0 ∷ bits 0x3ec8f15f599703b0 ∷ bits 0x3f8227213fd77689 ∷ bits 0xbfdef8e58e331738 ∷ bits 0xbf8227213fd77689 ∷ bits 0xbec8f15f599703b0 ∷ [];
  flags = 0 ∷ 0 ∷ 0 ∷ 0 ∷ 0 ∷ 0 ∷ 0 ∷ 0 ∷ 0 ∷ 0 ∷ 0 ∷ 0 ∷ 0 ∷ 0 ∷ 0 ∷ 0 ∷ 0 ∷ 0 ∷ [];
}
unfolding computed
door_gaussian = refl

pub door_lorentzian : weights_outcome (set (Lorentzian (bits 0x3fe0000000000000))) ≡ record {
  answer = 0;
  first = bits 0x3f9912b1c2336cf0 ∷ bits 0x3fb04c26be3b06cf ∷ bits 0x3fd45f306dc9c883 ∷ bits 0x3fb04c26be3b06cf ∷ bits 0x3fd45f306dc9c883 ∷ bits 0x3fd45f306dc9c883 ∷ bits 0x3fd45f306dc9c883 ∷ bits 0x3fb04c26be3b06cf ∷ bits 0x3f9912b1c2336cf0 ∷ bits 0x3fd45f306dc9c883 ∷ bits 0x3fd45f306dc9c883 ∷ bits 0x3fb04c26be3b06cf ∷ bits 0x3fd45f306dc9c883 ∷ bits 0x3fb04c26be3b06cf ∷ bits 0x3f9912b1c2336cf0 ∷ bits 0x3f9912b1c2336cf0 ∷ bits 0x3f8a1371305e714c ∷ bits 0x3f7fccc8796cee11 ∷ [];
  second = bits 0x3f64da37eae6e7a6 ∷ bits 0x3f826813a9ac13bd ∷ bits 0x3f963042b063e18a ∷ bits 0xbf64da37eae6e7a6 ∷ bits 0x3f64da37eae6e7a6 ∷ bits 0x3f826813a9ac13bd ∷ bits 0xbf963042b063e18a ∷ bits 0xbf826813a9ac13bd ∷ bits 0xbf64da37eae6e7a6 ∷ bits 0x3f8811f254086894 ∷ bits 0x3fac9eb46d486fdc ∷ bits 0x3fd409b1bbb9e29a ∷ bits 0xbf8811f254086894 ∷ bits 0x3f8811f254086894 ∷ bits 0x3fac9eb46d486fdc ∷ bits 0xbfd409b1bbb9e29a ∷ bits 0xbfac9eb46d486fdc ∷ bits 0xbf8811f254086894 ∷ [];
  flags = 0 ∷ 0 ∷ 0 ∷ 0 ∷ 0 ∷ 0 ∷ 0 ∷ 0 ∷ 0 ∷ 0 ∷ 0 ∷ 0 ∷ 0 ∷ 0 ∷ 0 ∷ 0 ∷ 0 ∷ 0 ∷ [];
}
unfolding computed
door_lorentzian = refl

pub door_box : weights_outcome (set (Box (bits 0x3fe8000000000000))) ≡ record {
  answer = 0;
  first = bits 0x0000000000000000 ∷ bits 0x0000000000000000 ∷ bits 0x3fe5555555555555 ∷ bits 0x0000000000000000 ∷ bits 0x3fe5555555555555 ∷ bits 0x3fe5555555555555 ∷ bits 0x3fe5555555555555 ∷ bits 0x0000000000000000 ∷ bits 0x0000000000000000 ∷ bits 0x3fe5555555555555 ∷ bits 0x3fe5555555555555 ∷ bits 0x0000000000000000 ∷ bits 0x3fe5555555555555 ∷ bits 0x0000000000000000 ∷ bits 0x0000000000000000 ∷ bits 0x0000000000000000 ∷ bits 0x0000000000000000 ∷ bits 0x0000000000000000 ∷ [];
  second = bits 0x0000000000000000 ∷ bits 0x0000000000000000 ∷ bits 0x0000000000000000 ∷ bits 0x0000000000000000 ∷ bits 0x0000000000000000 ∷ bits 0x0000000000000000 ∷ bits 0x0000000000000000 ∷ bits 0x0000000000000000 ∷ bits 0x0000000000000000 ∷ bits 0x0000000000000000 ∷ bits 0x0000000000000000 ∷ bits 0x3fe5555555555555 ∷ bits 0x0000000000000000 ∷ bits 0x0000000000000000 ∷ bits 0x0000000000000000 ∷ bits 0xbfe5555555555555 ∷ bits 0x0000000000000000 ∷ bits 0x0000000000000000 ∷ [];
  flags = 1 ∷ 1 ∷ 0 ∷ 1 ∷ 0 ∷ 0 ∷ 0 ∷ 1 ∷ 1 ∷ 0 ∷ 0 ∷ 0 ∷ 0 ∷ 1 ∷ 1 ∷ 0 ∷ 1 ∷ 1 ∷ [];
}
unfolding computed
door_box = refl

-- ---- refused: the number, and everything as it was

abbrev turned_away : ℕ → WeightsSet → WeightsOutcome
turned_away n s = record { answer = n; first = s.first; second = s.second; flags = s.flags }

-- widths of 0.0, -0.0 and -1 are 13; a NaN and both infinities 4
abbrev widths : List Float
widths = bits 0 ∷ bits 0x8000000000000000 ∷ bits 0xbff0000000000000 ∷ []

abbrev not_finite : List Float
not_finite = nan ∷ bits 0x7ff0000000000000 ∷ bits 0xfff0000000000000 ∷ []

pub width_refused : map (λ w. weights_outcome (set (Box w))) widths ≡ map (λ w. turned_away 13 (set (Box w))) widths
unfolding computed
width_refused = refl

pub not_finite_refused : map (λ w. weights_outcome (set (Gaussian w))) not_finite ≡ map (λ w. turned_away 4 (set (Gaussian w))) not_finite
unfolding computed
not_finite_refused = refl

-- number 4 of a frequency that the triplet does not read comes before 13, 3 before both, 2 before these, 1 before all
abbrev unread : WeightsSet → WeightsSet
unread s = record {
  measures = record { atoms = 1; first = 2; grid = 4 };
  shape = s.shape;
  triplet = s.triplet;
  bands = s.bands;
  frequencies = bits 0x3ff0000000000000 ∷ bits 0x4000000000000000 ∷ bits 0x4010000000000000 ∷ bits 0x3ff8000000000000 ∷ bits 0x4004000000000000 ∷ bits 0x400c000000000000 ∷ bits 0x4008000000000000 ∷ bits 0x4012000000000000 ∷ bits 0x4014000000000000 ∷ bits 0x3ff0000000000000 ∷ bits 0x3ff0000000000000 ∷ nan ∷ [];
  first = s.first;
  second = s.second;
  flags = s.flags;
}

abbrev outside : WeightsSet → WeightsSet
outside s = record {
  measures = s.measures;
  shape = s.shape;
  triplet = pos 2 ∷ pos 0 ∷ negsuc 0 ∷ [];
  bands = s.bands;
  frequencies = s.frequencies;
  first = s.first;
  second = s.second;
  flags = s.flags;
}

abbrev shorter : WeightsSet → WeightsSet
shorter s = record {
  measures = s.measures;
  shape = s.shape;
  triplet = s.triplet;
  bands = pos 3 ∷ pos 0 ∷ [];
  frequencies = s.frequencies;
  first = s.first;
  second = s.second;
  flags = replicate 17 7;
}

abbrev beyond : WeightsSet → WeightsSet
beyond s = record {
  measures = record { atoms = 1; first = 4; grid = 3 };
  shape = s.shape;
  triplet = s.triplet;
  bands = s.bands;
  frequencies = s.frequencies;
  first = s.first;
  second = s.second;
  flags = s.flags;
}

-- a width that is 13 by itself
abbrev zero_width : Shape
zero_width = Lorentzian (bits 0)

pub lowest_first : weights_outcome (unread (set zero_width)) ∷ weights_outcome (outside (set (Gaussian nan))) ∷ weights_outcome (shorter (set zero_width)) ∷ weights_outcome (beyond (shorter (set zero_width))) ∷ []
    ≡ turned_away 4 (unread (set zero_width)) ∷ turned_away 3 (outside (set (Gaussian nan))) ∷ turned_away 2 (shorter (set zero_width)) ∷ turned_away 1 (beyond (shorter (set zero_width))) ∷ []
unfolding computed
lowest_first = refl
