-- Two's complement, and tests of a whole list.
use Rattle.std.proofs.Common.{ℕ, zero, suc, ◌≤◌, ◌<◌, ◌≡◌, ◌∙◌, refl, ap, arith, add-one, zero-add, Bool, ◌&&◌, List, length, get_or, take, negsuc, ◌-◌}
use native.Mathlib.Decide.{dec_lt}
use mir.Val.{to_z, of_z, SFits}
use mir.ValLaws.{to_z-of_z}
use lib.IntN.{pos, ◌-ℤ◌}
use mir.Syntax.{w64}
use borrow.Author.Tests.{lt-ltb, le-ltb}
use lib.Seq.{take_all}
use Rattle.std.specs.List.{list_all, range_with_len}
use Rattle.std.proofs.lemmas.List.Folds.{list_all_more}
use Rattle.std.proofs.lemmas.List.FromFn.{length-range_with_len, get_or-range_with_len}
use Rattle.phonon.specs.Tests.{every_below}
use Rattle.carton.specs.Words.{int_of}

pub word_is : (w : ℕ) → to_z w64 w ≡ int_of w
unfolding int_of
word_is w = go (dec_lt w 9223372036854775808)
  where
    go : Dec (w < 9223372036854775808) → to_z w64 w ≡ int_of w
    go (yes h) = rw (lt-ltb w 9223372036854775808 h) refl
    go (no h) = rw (le-ltb w 9223372036854775808 (omega arith)) (ap negsuc (omega arith))

-- ---- the same of a negative integer, worked out from its word

to_small : (n : ℕ) → n < 9223372036854775808 → to_z w64 n ≡ pos n
to_small n h = rw (lt-ltb n 9223372036854775808 h) refl

minus_one_less : (n : ℕ) → negsuc 0 -ℤ pos n ≡ negsuc n
minus_one_less zero = refl
minus_one_less (suc n) = ap negsuc (omega arith)

-- a word of a negative integer
module _ (w : ℕ) (h : 9223372036854775808 ≤ w) (k : w < 18446744073709551616) where
  int_below : negsuc 0 -ℤ to_z w64 (18446744073709551615 - w) ≡ negsuc (18446744073709551615 - w)
  int_below = rw (to_small (18446744073709551615 - w) (omega arith)) (minus_one_less (18446744073709551615 - w))

  pub int_fits : SFits w64 (negsuc 0 -ℤ to_z w64 (18446744073709551615 - w))
  int_fits = rw int_below (record { sfits = omega arith })

  pub int_is : to_z w64 (of_z w64 (negsuc 0 -ℤ to_z w64 (18446744073709551615 - w))) ≡ int_of w
  unfolding int_of
  int_is = to_z-of_z w64 _ int_fits ∙ int_below ∙ rw (le-ltb w 9223372036854775808 h) refl

-- ---- a test of each entry

module _ {X : Type 0} (p : X → Bool) (xs : List X) (d : X) where
  every_front : (n : ℕ) → n ≤ length xs → list_all p (take n xs) ≡ every_below (λ k. p (get_or xs k d)) n
  unfolding every_below
  every_front zero h = refl
  every_front (suc n) h =
      let e = rw add-one at (list_all_more p xs n d (omega arith)) in
      e ∙ ap (λ (b : Bool). b && p (get_or xs n d)) (every_front n (omega arith))

  pub every_of : list_all p xs ≡ every_below (λ k. p (get_or xs k d)) (length xs)
  every_of = rw (take_all (length xs) xs (omega arith)) at (every_front (length xs) (omega arith))

every_same : (p q : ℕ → Bool) (n : ℕ) → ((k : ℕ) → k < n → p k ≡ q k) → every_below p n ≡ every_below q n
unfolding every_below
every_same p q zero h = refl
every_same p q (suc n) h = rw (every_same p q n (λ k l. h k (omega arith)), h n (omega arith)) refl

pub every_in : (p : ℕ → Bool) (n : ℕ) → list_all p (range_with_len 0 n) ≡ every_below p n
every_in p n =
    every_of p (range_with_len 0 n) 0
    ∙ rw (length-range_with_len 0 n) (every_same (λ k. p (get_or (range_with_len 0 n) k 0)) p n (λ k l. ap p (get_or-range_with_len 0 n k 0 l ∙ zero-add k)))
