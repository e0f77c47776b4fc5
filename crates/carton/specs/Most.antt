-- Document 01, "Carton file": how much a file may hold.
use Rattle.std.specs.Prelude.{ℕ}

-- the words of 96 blocks
abbrev pub most_words : ℕ
most_words = 6048

-- the largest W
abbrev pub most_work : ℕ
most_work = 6144
