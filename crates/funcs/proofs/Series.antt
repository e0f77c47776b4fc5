-- A series counts n down in the definitions and reads a table of divisors in the code: one is the other, as a fold over the list of divisors.
-- Assumes nothing.
use mathlib.Core.Path.{◌≡◌, refl}
use mathlib.Core.List.{List, [], ◌∷◌, map, foldl}
use Prim.Native.Nat.{ℕ, ◌+◌, ◌-◌, ◌*◌, ◌<◌, ◌≤◌}
use native.Mathlib.Numerals.{add-one}
use lib.ListN.{length, get_or, drop, drop_of_length-le}
use lib.Seq.{drop-cons}
use lib.Ieee.{Float, nan}
use Rattle.phonon.specs.Number.{◌⊕◌, ◌⊖◌, ◌⊗◌, ◌⊘◌, f1, whole, countdown}
use Rattle.phonon.specs.Exp.{exp_series}
use Rattle.phonon.specs.Trig.{sine_series, cosine_series}

-- ---- the steps, and the divisors in the order of their use
abbrev pub rising : Float → Float → Float → Float
rising r p d = f1 ⊕ p ⊗ (r ⊘ d)

abbrev pub alternating : Float → Float → Float → Float
alternating z p d = f1 ⊖ p ⊗ (z ⊘ d)

abbrev pub exp_divisors : List Float
exp_divisors = map whole (18 ∷ 17 ∷ 16 ∷ 15 ∷ 14 ∷ 13 ∷ 12 ∷ 11 ∷ 10 ∷ 9 ∷ 8 ∷ 7 ∷ 6 ∷ 5 ∷ 4 ∷ 3 ∷ 2 ∷ 1 ∷ [])

abbrev terms : List ℕ
terms = 9 ∷ 8 ∷ 7 ∷ 6 ∷ 5 ∷ 4 ∷ 3 ∷ 2 ∷ 1 ∷ []

abbrev pub sine_divisors : List Float
sine_divisors = map (λ n. whole (2 * n * (2 * n + 1))) terms

abbrev pub cosine_divisors : List Float
cosine_divisors = map (λ n. whole ((2 * n - 1) * (2 * n))) terms

-- ---- the definitions as folds
pub exp_fold : (r : Float) → exp_series r ≡ foldl (rising r) f1 exp_divisors
unfolding exp_series countdown
exp_fold r = refl

pub sine_fold : (z : Float) → sine_series z ≡ foldl (alternating z) f1 sine_divisors
unfolding sine_series countdown
sine_fold z = refl

pub cosine_fold : (z : Float) → cosine_series z ≡ foldl (alternating z) f1 cosine_divisors
unfolding cosine_series countdown
cosine_fold z = refl

-- ---- the loops: one turn, and the end
pub fold_turn : (f : Float → Float → Float) (p : Float) (ds : List Float) (i : ℕ) → i < length ds → foldl f (f p (get_or ds i nan)) (drop (i + 1) ds) ≡ foldl f p (drop i ds)
fold_turn f p ds i h = rw (add-one, drop-cons ds i nan)

pub fold_end : (f : Float → Float → Float) (p : Float) (ds : List Float) (i : ℕ) → length ds ≤ i → foldl f p (drop i ds) ≡ p
fold_end f p ds i h = rw (drop_of_length-le ds {i = i} h)
