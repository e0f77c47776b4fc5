-- Document 01, "Carton file": the blocks of a file, and refusals 10 and 11. A file is the list of its bytes.
-- Block b has bytes 512 * b to 512 * b + 511: 63 words of eight bytes, its number at 504, its check at 508.
use Rattle.std.specs.Prelude.{ℕ, ◌+◌, ◌*◌, ◌/◌, ◌%◌, Bool, ◌&&◌, List, length, get_or, leb, eqb}
use Rattle.phonon.specs.Number.{fold}
use Rattle.phonon.specs.Tests.{every_below}

-- little-endian numbers of four and of eight bytes, from byte i on
unfoldable pub four_at : List ℕ → ℕ → ℕ
four_at s i = get_or s i 0 + 256 * get_or s (i + 1) 0 + 65536 * get_or s (i + 2) 0 + 16777216 * get_or s (i + 3) 0

unfoldable pub eight_at : List ℕ → ℕ → ℕ
eight_at s i = four_at s i + 4294967296 * four_at s (i + 4)

-- ---- 10, file: empty, no multiple of 512 bytes, or over 96 blocks

unfoldable pub size_ok : List ℕ → Bool
size_ok s = (leb 1 (length s) && eqb (length s % 512) 0) && leb (length s) (96 * 512)

-- ---- 11, block: number or check wrong

-- the sum modulo 2^32 of the first 127 four-byte words, the number among them, of the block from byte i on
unfoldable pub check_of : List ℕ → ℕ → ℕ
check_of s i = fold 127 0 (λ k sum. sum + four_at s (i + 4 * k)) % 4294967296

unfoldable pub block_ok : List ℕ → ℕ → Bool
block_ok s b = eqb (four_at s (512 * b + 504)) b && eqb (four_at s (512 * b + 508)) (check_of s (512 * b))

-- every block of the file, needed or not
unfoldable pub blocks_ok : List ℕ → Bool
blocks_ok s = every_below (block_ok s) (length s / 512)
