-- How a carton is written: words into sealed blocks. Key case U is given as such a file.
use Prim.Native.Nat.{ℕ, zero, suc, ◌/◌, ◌%◌}
use mathlib.Core.List.{List, [], ◌∷◌, ◌++◌}
use lib.ListN.{take, drop, replicate, set}
use Rattle.carton.specs.Blocks.{check_of}

-- numbers of four and of eight bytes, little-endian
abbrev pub four : ℕ → List ℕ
four n = n % 256 ∷ n / 256 % 256 ∷ n / 65536 % 256 ∷ n / 16777216 % 256 ∷ []

abbrev pub eight : ℕ → List ℕ
eight n = four n ++ four (n / 4294967296)

unfoldable pub eights : List ℕ → List ℕ
eights [] = []
eights (w ∷ ws) = eight w ++ eights ws

abbrev pub checked : List ℕ → List ℕ
checked s = s ++ four (check_of s 0)

-- n blocks from number b on, of 63 words each
unfoldable pub seal : ℕ → ℕ → List ℕ → List ℕ
seal zero b ws = []
seal (suc n) b ws = checked (eights (take 63 ws) ++ four b) ++ seal n (suc b) (drop 63 ws)

-- cell U, with flags of its 27 slots: 170 words, and zeros to the end of the third block
unfoldable pub words_u : List ℕ → List ℕ
words_u flags =
    1 ∷ 1 ∷ 1 ∷ 3 ∷ 1 ∷ 1 ∷ 1
    ∷ 3 ∷ 0x3fe0000000000000 ∷ 0
    ∷ 1 ∷ 1 ∷ 1
    ∷ 1 ∷ 0 ∷ 0 ∷ 0 ∷ 1 ∷ 0 ∷ 0 ∷ 0 ∷ 1
    ∷ 0 ∷ 0 ∷ 0
    ∷ 0 ∷ 0 ∷ 0
    ∷ 0 ∷ 0 ∷ 0
    ∷ 1 ∷ 0
    ∷ 0
    ∷ 0
    ∷ 0x4010000000000000
    ∷ 0 ∷ 1 ∷ 2
    ∷ 0x3ff0000000000000 ∷ 0x4000000000000000 ∷ 0x4010000000000000
    ∷ 0x3ff0000000000000 ∷ 0 ∷ 0 ∷ 0 ∷ 0 ∷ 0
    ∷ 0 ∷ 0 ∷ 0x3ff0000000000000 ∷ 0 ∷ 0 ∷ 0
    ∷ 0 ∷ 0 ∷ 0 ∷ 0 ∷ 0x3ff0000000000000 ∷ 0
    ∷ 0
    ∷ 1
    ∷ (flags ++ (replicate 5 0 ++ 0x4030000000000000 ∷ (replicate 21 0 ++ (replicate 27 0x4000000000000000 ++ replicate 46 0))))

abbrev pub file_u : List ℕ → List ℕ
file_u flags = seal 3 0 (words_u flags)

-- every slot flagged but (0, 1, 2), as document 01 prints it
abbrev pub flags_u : List ℕ
flags_u = set (replicate 27 1) 5 0
