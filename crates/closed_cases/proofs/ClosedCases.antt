-- The closed cases hold of the definitions: each is computed. The bits are the oracle's.
use Prim.Native.Nat.{ℕ}
use mathlib.Core.Path.{◌≡◌, refl}
use mathlib.Core.List.{List, [], ◌∷◌, ◌++◌, map}
use lib.Ieee.{nan}
use lib.ListN.{replicate}
use lib.IntN.{negsuc}
use Rattle.phonon.specs.declared.Anchoring.TheVariants.{Plain, Averaged}
use Rattle.phonon.specs.declared.Form.TheVariants.{Compact, Full}
use Rattle.phonon.specs.declared.Symmetry.TheVariants.{Off, Symmetrized}
use Rattle.phonon.specs.declared.Weights.TheVariants.{PerSlot, AtFrequencyPoint}
use Rattle.phonon.specs.Number.{bits, f0, f1, at, table}
use Rattle.phonon.specs.Common.{cat}
use Rattle.phonon.specs.ReciprocalToNormal.{dot}
use Rattle.phonon.specs.Refusal.{triplet_refusal, list_refusal, totals_refusal, joined_refusal}
use Rattle.phonon.specs.Doors.{triplet_outcome, list_outcome, totals_outcome, joined_outcome}
use Rattle.phonon.specs.KeyCases.{minus0, minus1}
use Rattle.closed_cases.specs.ClosedCases.{made_over, made_frequencies, made_flags, forces2, crystal2, grid3, some_from, some, some2, strength_of2, strength2, constants1, eigenvectors1, strength_of1, passed1, nine, constants9, strength9, tables1, joined1, symmetrized1, list1, totals1, tables_u, triplet_u, list_u, joined_u, totals_u, shorter, longer, starting, as_is, phases_u}
use Rattle.phonon.proofs.Evaluate.{evaluate}

unfoldable computed : ℕ
unfolding evaluate made_over made_frequencies made_flags forces2 crystal2 grid3 some_from some some2 strength_of2 strength2 constants1 eigenvectors1 strength_of1 passed1 constants9 strength9 tables1 joined1 symmetrized1 list1 totals1 tables_u triplet_u list_u joined_u totals_u shorter longer starting phases_u
computed = 0

-- ---- the force constants in reciprocal space

pub reciprocal_plain_full : some2 Plain Full 3 ≡
    record { re = bits 0x403cc9614c53d028; im = bits 0xc03a4fe925a3c18f }
    ∷ record { re = bits 0xbfe9147dacc7c1ac; im = bits 0xc01bd2eddad790f4 }
    ∷ record { re = bits 0xc03f265d2717b01d; im = bits 0x40525fc32f296f02 }
    ∷ record { re = bits 0xc03c6cb4cec33355; im = bits 0x40426371df5887a0 }
    ∷ record { re = bits 0xc014a57816f2e821; im = bits 0x40286fa4a33a5244 }
    ∷ record { re = bits 0xc031af71f6aa82f8; im = bits 0x403691161ab2019f }
    ∷ []
unfolding computed
reciprocal_plain_full = refl

pub reciprocal_averaged_full : some2 Averaged Full 3 ≡
    record { re = bits 0x403cc9614c53d028; im = bits 0xc03a4fe925a3c190 }
    ∷ record { re = bits 0xbfe9147dacc7c1ab; im = bits 0xc01bd2eddad790f3 }
    ∷ record { re = bits 0xc0308395f94c8b9b; im = bits 0x40440c7bb24e61cb }
    ∷ record { re = bits 0xc02eac41d008936b; im = bits 0x4039fcb9e8d0e600 }
    ∷ record { re = bits 0x4019608d2e84a30c; im = bits 0x402c37591fcc2c87 }
    ∷ record { re = bits 0xc0401d9514fcda2a; im = bits 0x402ee56ef91a7f98 }
    ∷ []
unfolding computed
reciprocal_averaged_full = refl

pub reciprocal_plain_compact : some2 Plain Compact 2 ≡
    record { re = bits 0x400e5208144184d2; im = bits 0xc02adab8ca84f14e }
    ∷ record { re = bits 0x4016445df316117f; im = bits 0x4023fc1d09f92793 }
    ∷ record { re = bits 0xc035049290d356d0; im = bits 0x40315e30f86982fb }
    ∷ record { re = bits 0xc032fd51e5d57a40; im = bits 0x3fed916235bf1310 }
    ∷ record { re = bits 0xc014fa5f183300c9; im = bits 0x402e29d6844e9040 }
    ∷ record { re = bits 0xc0414c48fe477943; im = bits 0xc01bfab3e2a2932a }
    ∷ []
unfolding computed
reciprocal_plain_compact = refl

pub reciprocal_averaged_compact : some2 Averaged Compact 2 ≡
    record { re = bits 0x40356a9a38186bac; im = bits 0xc033f1e80c477d60 }
    ∷ record { re = bits 0x4016445df316117d; im = bits 0x4023fc1d09f92795 }
    ∷ record { re = bits 0xc01cebcfeaa8588d; im = bits 0xc0248d40c97c084a }
    ∷ record { re = bits 0x3fb91b441cb67600; im = bits 0x4007a29eeb7ca41d }
    ∷ record { re = bits 0xc018b91372ce17cb; im = bits 0x402d75ef1daa6de3 }
    ∷ record { re = bits 0xc03ab81251597fad; im = bits 0x4028cb639da611bb }
    ∷ []
unfolding computed
reciprocal_averaged_compact = refl

-- ---- strengths

pub strength_of_2 : strength2 ≡ bits 0x40c55ea0c826c3d3
unfolding computed
strength_of_2 = refl

pub strength_passed : passed1 ≡ bits 0x4073f4c3f35ba786
unfolding computed
strength_passed = refl

-- four partial sums, joined (0 + 1) + (2 + 3): 1, 2 ^ 53, 1 and -2 ^ 53 add up to 1, where one running sum would give 0
pub four-sums :
    dot 4 (cat (f1 ∷ f0 ∷ bits 0x4340000000000000 ∷ f0 ∷ f1 ∷ f0 ∷ bits 0xc340000000000000 ∷ f0 ∷ [])) (λ i. record { re = f1; im = f0 }) ≡ record { re = f1; im = f0 }
unfolding computed
four-sums = refl

-- two terms in each partial sum, and a ninth after: 2 ^ 54 + 4
pub nine_terms : dot 9 (λ i. record { re = at nine i; im = f0 }) (λ i. record { re = f1; im = f0 }) ≡ record { re = bits 0x4350000000000001; im = f0 }
unfolding computed
nine_terms = refl

pub strength_of_nine : strength9 ≡ bits 0x46b0000000000002
unfolding computed
strength_of_nine = refl

-- ---- the doors: all that an accepted call leaves

pub joined_averaged_compact : joined_outcome (joined1 Averaged Compact 1 (2 ∷ 5 ∷ 8 ∷ 9 ∷ 14 ∷ [])) ≡ record {
  answer = 0;
  strengths =
      minus1 ∷ minus1 ∷ f0 ∷ minus1 ∷ minus1 ∷ bits 0x40d1daf96f9cfa03
      ∷ minus1 ∷ minus1 ∷ bits 0x40f4daefcd581ba2 ∷ f0 ∷ minus1 ∷ minus1
      ∷ minus1 ∷ minus1 ∷ bits 0x40dd3247c87a7f52 ∷ minus1 ∷ minus1 ∷ minus1 ∷ [];
  totals = bits 0x41021b42c788ed74 ∷ bits 0x4109aba7d720bf49 ∷ [];
  work = replicate 209 f0 ++ replicate 11 minus1;
}
unfolding computed
joined_averaged_compact = refl

pub joined_plain_full : joined_outcome (joined1 Plain Full 2 (0 ∷ 3 ∷ 6 ∷ 8 ∷ 14 ∷ 17 ∷ [])) ≡ record {
  answer = 0;
  strengths =
      f0 ∷ minus1 ∷ minus1 ∷ bits 0x40dcbe67e52ba345 ∷ minus1 ∷ minus1
      ∷ bits 0x40d608d1377728cf ∷ minus1 ∷ bits 0x40ca5fcc5a9a16a6 ∷ minus1 ∷ minus1 ∷ minus1
      ∷ minus1 ∷ minus1 ∷ bits 0x40e3a6f8280fb98b ∷ minus1 ∷ minus1 ∷ bits 0x40d838dfb8190891 ∷ [];
  totals = bits 0x40f040615df34a23 ∷ bits 0x40fc3d7ed49a92de ∷ [];
  work = replicate 209 f0 ++ replicate 11 minus1;
}
unfolding computed
joined_plain_full = refl

pub triplet_symmetrized : triplet_outcome symmetrized1 ≡ record {
  answer = 0;
  strengths =
      f0 ∷ f0 ∷ f0 ∷ bits 0x40d15d1c06ad555b ∷ f0 ∷ f0
      ∷ f0 ∷ f0 ∷ f0 ∷ f0 ∷ f0 ∷ f0
      ∷ f0 ∷ f0 ∷ f0 ∷ f0 ∷ f0 ∷ f0 ∷ [];
  work = replicate 209 f0 ++ replicate 11 minus1;
}
unfolding computed
triplet_symmetrized = refl

pub list_of_two : list_outcome list1 ≡ record {
  answer = 0;
  strengths =
      minus1 ∷ minus1 ∷ minus1 ∷ minus1 ∷ minus1 ∷ minus1
      ∷ minus1 ∷ minus1 ∷ bits 0x40e268d97818618b ∷ minus1 ∷ minus1 ∷ minus1
      ∷ minus1 ∷ minus1 ∷ minus1 ∷ minus1 ∷ minus1 ∷ bits 0x40ed757400aaaab2
      ∷ minus1 ∷ minus1 ∷ minus1 ∷ minus1 ∷ minus1 ∷ bits 0x40c8d17dbe2cb2d3
      ∷ minus1 ∷ minus1 ∷ minus1 ∷ minus1 ∷ minus1 ∷ minus1
      ∷ bits 0x40df73206d71c724 ∷ minus1 ∷ minus1 ∷ minus1 ∷ minus1 ∷ minus1 ∷ [];
  work = replicate 209 f0 ++ replicate 11 minus1;
}
unfolding computed
list_of_two = refl

pub totals_at_frequency_point : totals_outcome (totals1 AtFrequencyPoint 9) ≡ record { answer = 0; totals = bits 0x4013619672194e8c ∷ bits 0x40345cc081ccc783 ∷ [] }
unfolding computed
totals_at_frequency_point = refl

pub totals_per_slot : totals_outcome (totals1 PerSlot 18) ≡ record { answer = 0; totals = bits 0x4013619672194e8c ∷ bits 0xc04973abad3ca3ac ∷ [] }
unfolding computed
totals_per_slot = refl

-- ---- refusals of a set of cell U's measures with one first band: table number n is altered, for n from 0, which is none, to 19

abbrev numbers : List ℕ
numbers = table 20 (λ n. n)

pub triplet_shorter : map (λ n. triplet_refusal (triplet_u (shorter n) (shorter n) (shorter n))) numbers ≡ 0 ∷ 2 ∷ 2 ∷ 2 ∷ 2 ∷ 2 ∷ 2 ∷ 2 ∷ 2 ∷ 2 ∷ 2 ∷ 2 ∷ 2 ∷ 2 ∷ 2 ∷ 2 ∷ 0 ∷ 0 ∷ 0 ∷ 0 ∷ []
unfolding computed
triplet_shorter = refl

pub triplet_longer : map (λ n. triplet_refusal (triplet_u (longer n) (longer n) (longer n))) numbers ≡ 0 ∷ 2 ∷ 2 ∷ 2 ∷ 2 ∷ 2 ∷ 2 ∷ 2 ∷ 2 ∷ 2 ∷ 2 ∷ 2 ∷ 2 ∷ 2 ∷ 2 ∷ 0 ∷ 0 ∷ 0 ∷ 0 ∷ 0 ∷ []
unfolding computed
triplet_longer = refl

pub list_shorter : map (λ n. list_refusal (list_u (shorter n) (shorter n) (shorter n))) numbers ≡ 0 ∷ 2 ∷ 2 ∷ 2 ∷ 2 ∷ 2 ∷ 2 ∷ 2 ∷ 2 ∷ 2 ∷ 2 ∷ 2 ∷ 2 ∷ 2 ∷ 2 ∷ 2 ∷ 2 ∷ 0 ∷ 0 ∷ 0 ∷ []
unfolding computed
list_shorter = refl

pub list_longer : map (λ n. list_refusal (list_u (longer n) (longer n) (longer n))) numbers ≡ 0 ∷ 2 ∷ 2 ∷ 2 ∷ 2 ∷ 2 ∷ 2 ∷ 2 ∷ 2 ∷ 2 ∷ 2 ∷ 2 ∷ 2 ∷ 2 ∷ 2 ∷ 0 ∷ 2 ∷ 0 ∷ 0 ∷ 0 ∷ []
unfolding computed
list_longer = refl

pub joined_shorter : map (λ n. joined_refusal (joined_u (shorter n) (shorter n) (shorter n))) numbers ≡ 0 ∷ 2 ∷ 2 ∷ 2 ∷ 2 ∷ 2 ∷ 2 ∷ 2 ∷ 2 ∷ 2 ∷ 2 ∷ 2 ∷ 2 ∷ 2 ∷ 2 ∷ 2 ∷ 0 ∷ 2 ∷ 2 ∷ 2 ∷ []
unfolding computed
joined_shorter = refl

pub joined_longer : map (λ n. joined_refusal (joined_u (longer n) (longer n) (longer n))) numbers ≡ 0 ∷ 2 ∷ 2 ∷ 2 ∷ 2 ∷ 2 ∷ 2 ∷ 2 ∷ 2 ∷ 2 ∷ 2 ∷ 2 ∷ 2 ∷ 2 ∷ 2 ∷ 0 ∷ 0 ∷ 2 ∷ 2 ∷ 2 ∷ []
unfolding computed
joined_longer = refl

pub totals_shorter : map (λ n. totals_refusal (totals_u (shorter n) (shorter n) (shorter n))) numbers ≡ 0 ∷ 0 ∷ 0 ∷ 0 ∷ 0 ∷ 0 ∷ 0 ∷ 0 ∷ 0 ∷ 0 ∷ 0 ∷ 2 ∷ 0 ∷ 2 ∷ 2 ∷ 0 ∷ 0 ∷ 2 ∷ 2 ∷ 2 ∷ []
unfolding computed
totals_shorter = refl

pub totals_longer : map (λ n. totals_refusal (totals_u (longer n) (longer n) (longer n))) numbers ≡ 0 ∷ 0 ∷ 0 ∷ 0 ∷ 0 ∷ 0 ∷ 0 ∷ 0 ∷ 0 ∷ 0 ∷ 0 ∷ 2 ∷ 0 ∷ 2 ∷ 2 ∷ 0 ∷ 0 ∷ 2 ∷ 2 ∷ 2 ∷ []
unfolding computed
totals_longer = refl

-- a NaN in the first place of a table of f64: 4 where it is for reading

pub triplet_not_finite : map (λ n. triplet_refusal (triplet_u (starting nan n) as_is as_is)) numbers ≡ 0 ∷ 4 ∷ 0 ∷ 4 ∷ 0 ∷ 0 ∷ 0 ∷ 0 ∷ 4 ∷ 0 ∷ 0 ∷ 4 ∷ 4 ∷ 0 ∷ 0 ∷ 0 ∷ 0 ∷ 0 ∷ 0 ∷ 0 ∷ []
unfolding computed
triplet_not_finite = refl

pub list_not_finite : map (λ n. list_refusal (list_u (starting nan n) as_is as_is)) numbers ≡ 0 ∷ 4 ∷ 0 ∷ 4 ∷ 0 ∷ 0 ∷ 0 ∷ 0 ∷ 4 ∷ 0 ∷ 0 ∷ 4 ∷ 4 ∷ 0 ∷ 0 ∷ 0 ∷ 0 ∷ 0 ∷ 0 ∷ 0 ∷ []
unfolding computed
list_not_finite = refl

pub joined_not_finite : map (λ n. joined_refusal (joined_u (starting nan n) as_is as_is)) numbers ≡ 0 ∷ 4 ∷ 0 ∷ 4 ∷ 0 ∷ 0 ∷ 0 ∷ 0 ∷ 4 ∷ 0 ∷ 0 ∷ 4 ∷ 4 ∷ 0 ∷ 0 ∷ 0 ∷ 0 ∷ 4 ∷ 4 ∷ 0 ∷ []
unfolding computed
joined_not_finite = refl

pub totals_not_finite : map (λ n. totals_refusal (totals_u (starting nan n) as_is as_is)) numbers ≡ 0 ∷ 0 ∷ 0 ∷ 0 ∷ 0 ∷ 0 ∷ 0 ∷ 0 ∷ 0 ∷ 0 ∷ 0 ∷ 4 ∷ 0 ∷ 0 ∷ 4 ∷ 0 ∷ 0 ∷ 4 ∷ 4 ∷ 0 ∷ []
unfolding computed
totals_not_finite = refl

-- -1 in the first place of a table of i64: 3 where it is an index, a count or a point, and 5 where it is a mesh size

abbrev signed : List ℕ
signed = 2 ∷ 4 ∷ 5 ∷ 9 ∷ 10 ∷ 16 ∷ 20 ∷ 21 ∷ 22 ∷ []

pub triplet_negative : map (λ n. triplet_refusal (triplet_u as_is (starting (negsuc 0) n) as_is)) signed ≡ 3 ∷ 3 ∷ 3 ∷ 0 ∷ 3 ∷ 0 ∷ 5 ∷ 0 ∷ 3 ∷ []
unfolding computed
triplet_negative = refl

pub list_negative : map (λ n. list_refusal (list_u as_is (starting (negsuc 0) n) as_is)) signed ≡ 3 ∷ 3 ∷ 3 ∷ 0 ∷ 3 ∷ 3 ∷ 5 ∷ 0 ∷ 0 ∷ []
unfolding computed
list_negative = refl

pub joined_negative : map (λ n. joined_refusal (joined_u as_is (starting (negsuc 0) n) as_is)) signed ≡ 3 ∷ 3 ∷ 3 ∷ 0 ∷ 3 ∷ 0 ∷ 5 ∷ 0 ∷ 3 ∷ []
unfolding computed
joined_negative = refl

-- a mass of -0.0

pub mass_zero : joined_refusal (joined_u (starting minus0 3) as_is as_is) ≡ 6
unfolding computed
mass_zero = refl

-- only one of the six orders refuses

pub phase_of_an_order : triplet_refusal (phases_u Off) ∷ triplet_refusal (phases_u Symmetrized) ∷ [] ≡ 0 ∷ 9 ∷ []
unfolding computed
phase_of_an_order = refl

-- ---- a refused call leaves all as it was

pub untouched : triplet_outcome (phases_u Symmetrized) ≡ record { answer = 9; strengths = replicate 9 minus1; work = replicate 203 minus1 }
unfolding computed
untouched = refl

-- a NaN in the vectors
pub list_untouched : list_outcome (list_u (starting nan 1) as_is as_is) ≡ record { answer = 4; strengths = replicate 18 minus1; work = replicate 203 minus1 }
unfolding computed
list_untouched = refl

-- a NaN in the frequencies
pub totals_untouched : totals_outcome (totals_u (starting nan 11) as_is as_is) ≡ record { answer = 4; totals = minus1 ∷ [] }
unfolding computed
totals_untouched = refl
