-- Entries of a list that are read one by one are a part of it.
use Prim.Native.Nat.{ℕ, zero, suc, ◌+◌, ◌≤◌}
use mathlib.Core.Path.{◌≡◌, refl, ap, ◌∙◌}
use mathlib.Core.List.{List, [], ◌∷◌}
use native.Mathlib.Numerals.{add-one}
use native.Mathlib.Omega.{arith}
use lib.IntN.{ℤ, pos}
use lib.ListN.{length, take, drop}
use lib.Seq.{drop-cons}
use Rattle.phonon.specs.Number.{int}

-- n entries from entry i + k on
unfoldable pub further : ℕ → ℕ → ℕ → List ℤ → List ℤ
further zero k i l = []
further (suc n) k i l = int l (i + k) ∷ further n (suc k) i l

further_part : (n k i : ℕ) (l : List ℤ) → i + k + n ≤ length l → further n k i l ≡ take n (drop (i + k) l)
unfolding further
further_part zero k i l h = refl
further_part (suc n) k i l h =
    let e : suc (i + k) ≡ i + suc k = omega arith in
    rw (drop-cons l (i + k) (pos 0) (omega arith), e) (ap (λ (t : List ℤ). int l (i + k) ∷ t) (further_part n (suc k) i l (omega arith)))

-- entry i and n more
pub read_part : (n i : ℕ) (l : List ℤ) → i + suc n ≤ length l → int l i ∷ further n 1 i l ≡ take (suc n) (drop i l)
read_part n i l h =
    rw (drop-cons l i (pos 0) (omega arith)) (ap (λ (t : List ℤ). int l i ∷ t) (further_part n 1 i l (omega arith) ∙ rw add-one refl))
