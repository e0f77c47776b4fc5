-- Document 01, "Carton file": the words of a file, 63 to a block, and what a word is as a number.
use Rattle.std.specs.Prelude.{ℕ, ◌+◌, ◌-◌, ◌*◌, ◌/◌, ◌%◌, Bool, cond, List, length, get_or, ℤ, pos, negsuc, Float, ltb}
use Rattle.phonon.specs.Number.{bits, table}
use Rattle.phonon.specs.Tests.{every_below}
use Rattle.carton.specs.Blocks.{eight_at}

unfoldable pub word_at : List ℕ → ℕ → ℕ
word_at s w = eight_at s (512 * (w / 63) + 8 * (w % 63))

-- every word of the file
unfoldable pub words_of : List ℕ → List ℕ
words_of s = table (63 * (length s / 512)) (word_at s)

-- ---- a word as an integer in two's complement, and as a flag byte. As an f64 it is `bits w`, one NaN for every pattern of a NaN.

unfoldable pub int_of : ℕ → ℤ
int_of w = cond (ltb w 9223372036854775808) (pos w) (negsuc (18446744073709551615 - w))

unfoldable pub byte_of : ℕ → ℕ
byte_of w = w % 256

-- ---- every word as each

unfoldable pub floats_of : List ℕ → List Float
floats_of ws = table (length ws) (λ k. bits (get_or ws k 0))

unfoldable pub ints_of : List ℕ → List ℤ
ints_of ws = table (length ws) (λ k. int_of (get_or ws k 0))

unfoldable pub bytes_of : List ℕ → List ℕ
bytes_of ws = table (length ws) (λ k. byte_of (get_or ws k 0))

-- every word is below the limit
unfoldable pub all_below : ℕ → List ℕ → Bool
all_below limit ws = every_below (λ k. ltb (get_or ws k 0) limit) (length ws)
