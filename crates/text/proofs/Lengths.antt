-- How long the lines are: the rooms of specs/Room.antt suffice.
use Prim.Native.Nat.{ℕ, zero, suc, ◌*◌, ◌/◌, ◌%◌, ◌^◌, ◌≤◌, ◌<◌}
use mathlib.Core.Bool.{Bool, true, false, cond}
use mathlib.Core.Path.{◌≡◌, refl}
use mathlib.Core.List.{List, [], ◌∷◌, ◌++◌}
use native.Mathlib.Nat.{pow-succ', mul-le-mul_right, suc-mul}
use native.Mathlib.Omega.{arith}
use borrow.Author.Tests.{lt-ltb}
use lib.Dec.{ltb}
use lib.Ieee.{Float}
use lib.ListN.{length, length-append}
use Rattle.io.specs.Digits.{hex_digit_ascii}
use Rattle.phonon.specs.Number.{at, flagged}
use Rattle.phonon.specs.Sets.{slot}
use Rattle.text.specs.Lines.{ascii, decimal_of, number_then, bits_line, refused_line, bands_line, slot_line, total_line, lines_below, slot_lines, column_lines, first_band_lines, slots_text, totals_text, accepted_text}
use Rattle.text.specs.Room.{most_key_bands, refused_room, bands_room, slot_room, total_room, accepted_room}

-- ---- one line

digit_more : (c : Bool) (l : List ℕ) (x : ℕ) {k : ℕ} → length l ≤ k → length (cond c (x ∷ []) (l ++ (x ∷ []))) ≤ suc k
digit_more true l x h = omega arith
digit_more false l x h = omega (arith, length-append l (x ∷ []))

decimal_length : (more n k : ℕ) → n < 10 ^ suc k → length (decimal_of more n) ≤ suc k
unfolding decimal_of
decimal_length zero n k h = omega arith
decimal_length (suc more) n zero h = rw (lt-ltb n 10 h) (omega arith)
decimal_length (suc more) n (suc k) h =
    let tenth : n / 10 < 10 ^ suc k = omega (arith, pow-succ' 10 (suc k)) in
    digit_more (ltb n 10) (decimal_of more (n / 10)) (hex_digit_ascii (n % 10)) (decimal_length more (n / 10) k tenth)

number_length : (n b : ℕ) → n < 1000 → length (number_then n b) ≤ 4
unfolding number_then
number_length n b h = omega (arith, length-append (decimal_of 19 n) (b ∷ []), decimal_length 19 n 2 h)

bits_length : (x : Float) → length (bits_line x) ≡ 17
unfolding bits_line
bits_length x = refl

pub refused_length : (n : ℕ) → n < 1000 → length (refused_line n) ≤ refused_room
unfolding refused_line
refused_length n h = omega (arith, length-append (ascii "refused ") (number_then n 10), number_length n 10 h)

bands_length : (n : ℕ) → n ≤ most_key_bands → length (bands_line n) ≤ bands_room
unfolding bands_line
bands_length n h = omega (arith, length-append (ascii "bands ") (number_then n 10), number_length n 10 (omega arith))

total_length : (b : ℕ) (x : Float) → b < most_key_bands → length (total_line b x) ≤ total_room
unfolding total_line
total_length b x h =
    rw (length-append (ascii "total "), length-append (number_then b 32)) (omega (arith, number_length b 32 (omega arith), bits_length x))

slot_length : (b j k : ℕ) (x : Float) → b < most_key_bands → j < most_key_bands → k < most_key_bands → length (slot_line b j k x) ≤ slot_room
unfolding slot_line
slot_length b j k x hb hj hk =
    rw (length-append (ascii "slot "), length-append (number_then b 32), length-append (number_then j 32), length-append (number_then k 32))
    (omega (arith, number_length b 32 (omega arith), number_length j 32 (omega arith), number_length k 32 (omega arith), bits_length x))

unless_length : (c : Bool) (l : List ℕ) {m : ℕ} → length l ≤ m → length (cond c [] l) ≤ m
unless_length true l h = omega arith
unless_length false l h = h

-- ---- all lines

lines_length : (n m : ℕ) (f : ℕ → List ℕ) → ((i : ℕ) → i < n → length (f i) ≤ m) → length (lines_below n f) ≤ n * m
unfolding lines_below
lines_length zero m f h = omega arith
lines_length (suc n) m f h =
    omega (arith, length-append (lines_below n f) (f n), lines_length n m f (λ i l. h i (omega arith)), h n (omega arith), suc-mul n m)

-- where there are at most N
most_length : (n N m : ℕ) (f : ℕ → List ℕ) → n ≤ N → ((i : ℕ) → i < n → length (f i) ≤ m) → length (lines_below n f) ≤ N * m
most_length n N m f h l = omega (arith, lines_length n m f l, mul-le-mul_right m h)

module _ (F B : ℕ) (flags : List ℕ) (strengths : List Float) (few : F ≤ most_key_bands) (bands : B ≤ most_key_bands) where
  slots_length : length (slots_text F B flags strengths) ≤ most_key_bands * (most_key_bands * (most_key_bands * slot_room))
  unfolding slots_text first_band_lines column_lines slot_lines
  slots_length =
      most_length F most_key_bands _ _ few (λ b hb. most_length B most_key_bands _ _ bands (λ k hk. most_length B most_key_bands _ _ bands (λ j hj.
      unless_length (flagged flags (slot B b j k)) _ (slot_length b j k _ (omega arith) (omega arith) (omega arith)))))

  pub accepted_length : (totals : List Float) → length totals ≡ F → length (accepted_text F B flags strengths totals) ≤ accepted_room
  unfolding accepted_text totals_text
  accepted_length totals e =
      rw (length-append (bands_line F), length-append (slots_text F B flags strengths))
      (omega (arith, bands_length F few, slots_length, most_length (length totals) most_key_bands total_room (λ b. total_line b (at totals b)) (omega arith) (λ b hb. total_length b (at totals b) (omega arith))))
