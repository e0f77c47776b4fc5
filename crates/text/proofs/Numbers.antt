-- Numbers as text: the fewest decimal digits, 16 hexadecimal digits, and the bits of an f64.
use Prim.Native.Nat.{ℕ, zero, suc, ◌-◌, ◌*◌, ◌/◌, ◌%◌, ◌^◌, ◌≤◌, ◌<◌}
use mathlib.Core.Path.{◌≡◌, refl, ◌∙◌, ap}
use mathlib.Core.List.{List, [], ◌∷◌, ◌++◌}
use native.Mathlib.Decide.{dec_lt}
use native.Mathlib.Nat.{pow-succ', one-le-pow, pow-le-pow_right}
use native.Mathlib.Omega.{arith}
use borrow.Author.Tests.{lt-ltb, le-ltb}
use lib.Ieee.{Float, nan, inf, fin, binary64, to_bits}
use lib.ListN.{take}
use Rattle.io.specs.Digits.{last_digits, hex_digit_ascii, IsDigitCount}
use Rattle.text.specs.Lines.{decimal_of, bits_of}

-- ---- how many digits

-- a number below the k-th power has at most k digits
at_most : (b least n k r : ℕ) → 0 < b → least ≤ k → n < b ^ k → IsDigitCount b least n r → r ≤ k
at_most b least n k r h l p f = go (dec_lt k r)
  where
    go : Dec (k < r) → r ≤ k
    go (yes q) =
        let grows : b ^ k ≤ b ^ (r - 1) = pow-le-pow_right {n = b} h {i = k} {j = r - 1} (omega arith) in
        absurd (omega (arith, f.2 (omega arith)))
    go (no q) = omega arith

-- ---- decimal

-- a number that takes k + 2 digits
long : (n k : ℕ) → IsDigitCount 10 1 n (suc (suc k)) → 10 * 10 ^ k ≤ n
long n k f =
    let less : suc (suc k) - 1 ≡ suc k = omega arith in
    rw (less, pow-succ') at (f.2 (omega arith))

-- takes k + 1 without the last
fewer : (n k : ℕ) → IsDigitCount 10 1 n (suc (suc k)) → IsDigitCount 10 1 (n / 10) (suc k)
fewer n k f =
    let less : suc k - 1 ≡ k = omega arith in
    (omega arith, omega (arith, f.1, pow-succ' 10 (suc k)), λ l. rw less (omega (arith, long n k f)))

decimal : (more n k : ℕ) → IsDigitCount 10 1 n (suc k) → k ≤ more → last_digits 10 (suc k) n ≡ decimal_of more n
unfolding decimal_of
decimal zero n zero f h = refl
decimal zero n (suc k) f h = absurd (omega arith)
decimal (suc more) n zero f h = rw (lt-ltb n 10 f.1) refl
decimal (suc more) n (suc k) f h =
    let ten : 10 ≤ n = omega (arith, long n k f, one-le-pow k 10 (omega arith)) in
    rw (le-ltb n 10 ten) (ap (λ (l : List ℕ). l ++ (hex_digit_ascii (n % 10) ∷ [])) (decimal more (n / 10) k (fewer n k f) (omega arith)))

pub decimal_digits : (out : List ℕ) (n r : ℕ) → n < 2 ^ 64 → IsDigitCount 10 1 n r → take r out ≡ last_digits 10 r n → take r out ≡ decimal_of 19 n
decimal_digits out n zero h f e = absurd (omega (arith, f.0))
decimal_digits out n (suc k) h f e = e ∙ decimal 19 n k f (omega (arith, at_most 10 1 n 20 (suc k) (omega arith) (omega arith) (omega arith) f))

-- ---- hexadecimal

-- a NaN's one pattern is the library's
bits_are : (x : Float) → to_bits binary64 x ≡ bits_of x
unfolding bits_of to_bits
bits_are nan = refl
bits_are (inf s) = refl
bits_are (fin s m e) = refl

-- a 64-bit number has 16 digits where no fewer are asked for
sixteen : (n r : ℕ) → n < 2 ^ 64 → IsDigitCount 16 16 n r → r ≡ 16
sixteen n r h f = omega (arith, f.0, at_most 16 16 n 16 r (omega arith) (omega arith) h f)

pub bits_digits : (x : Float) (out : List ℕ) (n r : ℕ) → n ≡ to_bits binary64 x → n < 2 ^ 64 → IsDigitCount 16 16 n r → take r out ≡ last_digits 16 r n → take r out ≡ last_digits 16 16 (bits_of x)
bits_digits x out n r e h f d = d ∙ ap (λ (k : ℕ). last_digits 16 k n) (sixteen n r h f) ∙ ap (λ (m : ℕ). last_digits 16 16 m) (e ∙ bits_are x)
