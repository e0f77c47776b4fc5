-- Refusals are in the order of their numbers.
use Prim.Native.Nat.{ℕ, ◌≤◌, ◌<◌}
use mathlib.Core.Path.{◌≡◌, refl}
use mathlib.Core.Bool.{true, false}
use mathlib.Core.List.{List, [], ◌∷◌}
use native.Mathlib.Omega.{arith}
use lib.IntN.{ℤ, pos}
use lib.ListN.{get_or}
use denote.Enum.Declared.{tag_of}
use Rattle.std.specs.Ordering.{is_le, int_cmp}
use Rattle.std.proofs.lemmas.Grind.{common_steps}
use Rattle.phonon.specs.declared.Refusal.{Refusal}
use Rattle.phonon.specs.declared.Refusal.TheVariants.{Measure, Length, Index, NotFinite, Mesh, Mass, Cutoff, Bath, Phase, File, Block, Heading, Width}
use Rattle.phonon.specs.contracts.Refusal.{the_type}
use Rattle.phonon.specs.Answers.{number}

abbrev pub numbers : List ℤ
numbers = pos 1 ∷ pos 2 ∷ pos 3 ∷ pos 4 ∷ pos 5 ∷ pos 6 ∷ pos 7 ∷ pos 8 ∷ pos 9 ∷ pos 10 ∷ pos 11 ∷ pos 12 ∷ pos 13 ∷ []

pub coded : (r : Refusal) → get_or numbers (tag_of the_type r) (pos 0) ≡ pos (number r)
coded Measure = refl
coded Length = refl
coded Index = refl
coded NotFinite = refl
coded Mesh = refl
coded Mass = refl
coded Cutoff = refl
coded Bath = refl
coded Phase = refl
coded File = refl
coded Block = refl
coded Heading = refl
coded Width = refl

pub not_above : (a b : ℕ) → true ≡ is_le (int_cmp (pos a) (pos b)) → a ≤ b
not_above a b e = grind (arith, common_steps)

pub above : (a b : ℕ) → false ≡ is_le (int_cmp (pos a) (pos b)) → b < a
above a b e = grind (arith, common_steps)
