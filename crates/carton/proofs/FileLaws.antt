-- What the tests of a file tell: its refusal, and how many words it has.
use Prim.Native.Nat.{ℕ, ◌*◌, ◌/◌, ◌%◌, ◌≤◌}
use mathlib.Core.Bool.{true, false, ◌&&◌}
use mathlib.Core.List.{List}
use mathlib.Core.Path.{◌≡◌, refl, ◌∙◌}
use native.Mathlib.Omega.{arith}
use lib.Dec.{leb, eqb}
use lib.ListN.{length}
use borrow.Author.Tests.{leb-true, eqb-true}
use Rattle.phonon.proofs.Lowest.{pass, stop, none_fails}
use Rattle.checks.proofs.Laws.{and_left, and_right}
use Rattle.carton.specs.Most.{most_words}
use Rattle.carton.specs.Blocks.{size_ok, blocks_ok}
use Rattle.carton.specs.Words.{words_of}
use Rattle.carton.specs.Heading.{heading_ok}
use Rattle.carton.specs.File.{file_refusal}

-- one block at least, and at most 96
pub word_count : (s : List ℕ) → size_ok s ≡ true → (63 ≤ 63 * (length s / 512)) × (63 * (length s / 512) ≤ most_words)
unfolding size_ok
word_count s e =
    let a = leb 1 (length s) in
    let b = eqb (length s % 512) 0 in
    let d = and_left (a && b) (leb (length s) 49152) e in
    let some = leb-true 1 (length s) (and_left a b d) in
    let whole = eqb-true (length s % 512) 0 (and_right a b d) in
    let most = leb-true (length s) 49152 (and_right (a && b) (leb (length s) 49152) e) in
    (omega arith, omega arith)

module _ (s : List ℕ) where
  pub file_10 : size_ok s ≡ false → file_refusal s ≡ 10
  unfolding file_refusal
  file_10 a = stop 9 _ refl a

  module _ (a : size_ok s ≡ true) where
    pub file_11 : blocks_ok s ≡ false → file_refusal s ≡ 11
    unfolding file_refusal
    file_11 b = pass _ _ a ∙ stop 10 _ refl b

    pub file_12 : blocks_ok s ≡ true → heading_ok (words_of s) ≡ false → file_refusal s ≡ 12
    unfolding file_refusal
    file_12 b h = pass _ _ a ∙ pass _ _ b ∙ stop 11 _ refl h

    pub file_read : blocks_ok s ≡ true → heading_ok (words_of s) ≡ true → file_refusal s ≡ 0
    unfolding file_refusal
    file_read b h = none_fails _ (a, (b, (h, tt)))
