-- Document 01's sine and cosine, for an argument from -1048576 to 1048576.
use Rattle.std.specs.Prelude.{Bool, true, false, ◌&&◌, ℕ, zero, suc, ◌+◌, ◌-◌, ◌*◌, ◌/◌, ◌%◌, ℤ, pos, negsuc, neg_ℤ, Float}
use Rattle.std.specs.Float.{nan, inf, fin}
use Rattle.std.specs.Float.Ieee.{up, down, neg, le}
use Rattle.phonon.specs.declared.SinCos.{SinCos}
use Rattle.phonon.specs.Number.{◌⊕◌, ◌⊖◌, ◌⊗◌, ◌⊘◌, bits, f1, float, whole, countdown}

-- the greatest whole number not above y, for a y that is finite: m * 2 ^ e is m * up e / down e
unfoldable pub floor : Float → ℤ
floor nan = pos 0
floor (inf s) = pos 0
floor (fin false m e) = pos (m * up e / down e)
floor (fin true m e) = neg_ℤ (pos ((m * up e + down e - 1) / down e))

-- k mod 4, taken 0 to 3
abbrev pub quadrant : ℤ → ℕ
quadrant (pos n) = n % 4
quadrant (negsuc n) = 3 - n % 4

-- k, the argument in quarter turns, to the nearest
abbrev pub quarters : Float → Float
quarters x = x ⊗ bits 0x3FE45F306DC9C883 ⊕ bits 0x3FE0000000000000

-- r, the argument less k quarter turns, which three constants give
abbrev pub reduced : Float → Float → Float
reduced x k = ((x ⊖ k ⊗ bits 0x3FF921FB54400000) ⊖ k ⊗ bits 0x3DD0B4611A600000) ⊖ k ⊗ bits 0x3BA3198A2E037073

-- from p = 1, for n = 9 down to 1: p = 1 - p * (z / (2n * (2n + 1)))
unfoldable pub sine_series : Float → Float
unfolding countdown
sine_series z = countdown 9 f1 (λ n p. f1 ⊖ p ⊗ (z ⊘ whole (2 * n * (2 * n + 1))))

-- from c = 1, for n = 9 down to 1: c = 1 - c * (z / ((2n - 1) * 2n))
unfoldable pub cosine_series : Float → Float
unfolding countdown
cosine_series z = countdown 9 f1 (λ n c. f1 ⊖ c ⊗ (z ⊘ whole ((2 * n - 1) * (2 * n))))

-- the sine and the cosine after q quarter turns, from those of r
abbrev pub turned : ℕ → Float → Float → SinCos
turned zero s c = record { sin = s; cos = c }
turned (suc zero) s c = record { sin = c; cos = neg s }
turned (suc (suc zero)) s c = record { sin = neg s; cos = neg c }
turned (suc (suc (suc q))) s c = record { sin = neg c; cos = s }

unfoldable pub near : ℕ → Float → SinCos
unfolding sine_series cosine_series
near q r = let z = r ⊗ r in turned q (r ⊗ sine_series z) (cosine_series z)

unfoldable pub at_floor : Float → ℤ → SinCos
unfolding near
at_floor x k = near (quadrant k) (reduced x (float k))

-- the domain; no NaN is in it
unfoldable pub in_domain : Float → Bool
in_domain x = le (bits 0xC130000000000000) x && le x (bits 0x4130000000000000)

unfoldable pub by_domain : Bool → Float → SinCos
unfolding at_floor floor
by_domain true x = at_floor x (floor (quarters x))
by_domain false x = record { sin = nan; cos = nan }

-- Outside of their domain both are a NaN.
unfoldable pub sin_cos : Float → SinCos
unfolding by_domain in_domain
sin_cos x = by_domain (in_domain x) x
