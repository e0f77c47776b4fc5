-- Document 01: 10, 11, 12, then the others. The refusal of a file as a whole.
use Rattle.std.specs.Prelude.{ℕ, List, [], ◌∷◌}
use Rattle.phonon.specs.Refusal.{lowest}
use Rattle.carton.specs.Blocks.{size_ok, blocks_ok}
use Rattle.carton.specs.Words.{words_of}
use Rattle.carton.specs.Heading.{heading_ok}

-- 10, 11 or 12, in that order, and 0 for a file that is read
unfoldable pub file_refusal : List ℕ → ℕ
file_refusal s =
    lowest
    (record { number = 10; good = size_ok s }
    ∷ record { number = 11; good = blocks_ok s }
    ∷ record { number = 12; good = heading_ok (words_of s) }
    ∷ [])
