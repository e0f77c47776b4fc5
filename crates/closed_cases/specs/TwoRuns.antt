-- One triplet worked twice, as demand 3 has it: cell U at two grid points, with all force constants 16, weight 3, temperature 1.0, first weights 2.0 and second
-- weights 1.0. The second run has a raised cutoff, a further flag and a changed band.
use Rattle.std.specs.Prelude.{ℕ, List, [], ◌∷◌, pos, Float, replicate, set}
use Rattle.phonon.specs.declared.Anchoring.TheVariants.{Plain}
use Rattle.phonon.specs.declared.Form.TheVariants.{Compact}
use Rattle.phonon.specs.declared.Symmetry.TheVariants.{Off}
use Rattle.phonon.specs.Number.{bits, f0, f1, f2, whole}
use Rattle.phonon.specs.Sets.{JoinedSet}
use Rattle.phonon.specs.KeyCases.{minus1, half, three_quarters, f4, f16, all3, unflagged}

-- 0.625, between the two cutoffs
abbrev pub five_eighths : Float
five_eighths = bits 0x3fe4000000000000

abbrev pub quarter : Float
quarter = bits 0x3fd0000000000000

-- band 2 of the first point has this frequency, and this entry in component 2
module _ (cutoff : Float) (flags : List ℕ) (frequency entry : Float) where
  unfoldable pub run : JoinedSet
  run = record {
    tables = record {
      measures = record { atoms = 1; supercell = 1; first = 3; grid = 2; vectors = 1 };
      settings = record { anchoring = Plain; cutoff = cutoff };
      symmetry = Off;
      crystal = record {
        vectors = f0 ∷ f0 ∷ f0 ∷ [];
        multiplicity = pos 1 ∷ pos 0 ∷ [];
        masses = f4 ∷ [];
        forces = record { form = Compact; p2s = pos 0 ∷ []; s2p = pos 0 ∷ []; shortest = 0 ∷ []; nonzero = 1 ∷ []; constants = replicate 27 f16 };
      };
      grid = record {
        mesh = pos 2 ∷ pos 1 ∷ pos 1 ∷ [];
        matrix = pos 1 ∷ pos 0 ∷ pos 0 ∷ pos 0 ∷ pos 1 ∷ pos 0 ∷ pos 0 ∷ pos 0 ∷ pos 1 ∷ [];
        addresses = pos 0 ∷ pos 0 ∷ pos 0 ∷ pos 1 ∷ pos 0 ∷ pos 0 ∷ [];
      };
      bands = all3;
      phonons = record {
        frequencies = f1 ∷ five_eighths ∷ frequency ∷ quarter ∷ f2 ∷ f4 ∷ [];
        eigenvectors =
            f1 ∷ f0 ∷ f0 ∷ f0 ∷ f0 ∷ f0 ∷ f0 ∷ f0 ∷ f1 ∷ f0 ∷ f0 ∷ f0 ∷ f0 ∷ f0 ∷ f0 ∷ f0 ∷ entry ∷ f0
            ∷ f1 ∷ f0 ∷ f0 ∷ f0 ∷ f0 ∷ f0 ∷ f0 ∷ f0 ∷ f1 ∷ f0 ∷ f0 ∷ f0 ∷ f0 ∷ f0 ∷ f0 ∷ f0 ∷ f1 ∷ f0 ∷ [];
      };
    };
    triplet = pos 0 ∷ pos 1 ∷ pos 1 ∷ [];
    flags = flags;
    bath = record { weight = pos 3; temperature = f1 };
    first = replicate 27 f2;
    second = replicate 27 f1;
    strengths = replicate 27 minus1;
    totals = replicate 3 minus1;
    work = replicate 203 minus1;
  }

abbrev pub first_run : JoinedSet
first_run = run half unflagged f4 f1

-- slot (1, 1, 2) is flagged
abbrev pub second_run : JoinedSet
second_run = run three_quarters (set unflagged 14 1) (whole 5) f2
