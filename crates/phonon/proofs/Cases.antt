-- The key cases M1 to M11 hold of the definitions: each is computed.
use Prim.Native.Nat.{ℕ, zero, suc, ◌<◌}
use native.Mathlib.Omega.{arith}
use mathlib.Core.Path.{◌≡◌, refl}
use mathlib.Core.List.{List, [], ◌∷◌}
use lib.ListN.{length, get_or}
use Rattle.phonon.specs.Doors.{joined_outcome}
use Rattle.phonon.specs.KeyCases.{KeyCase, M1, M2, M3, M4, M5, M6, M7, M8, M9, M10, M11, key_cases}
use Rattle.phonon.proofs.Evaluate.{evaluate}

-- what the joined door leaves is what the table says
abbrev pub Holds : KeyCase → Type 0
Holds c = joined_outcome c.set ≡ c.outcome

-- Each case is computed by itself: together they would come near the limit of what one declaration may compute.
m1 : Holds M1
unfolding evaluate
m1 = refl

m2 : Holds M2
unfolding evaluate
m2 = refl

m3 : Holds M3
unfolding evaluate
m3 = refl

m4 : Holds M4
unfolding evaluate
m4 = refl

m5 : Holds M5
unfolding evaluate
m5 = refl

m6 : Holds M6
unfolding evaluate
m6 = refl

m7 : Holds M7
unfolding evaluate
m7 = refl

m8 : Holds M8
unfolding evaluate
m8 = refl

m9 : Holds M9
unfolding evaluate
m9 = refl

m10 : Holds M10
unfolding evaluate
m10 = refl

m11 : Holds M11
unfolding evaluate
m11 = refl

-- each case of a list
abbrev Hold : List KeyCase → Type 0
Hold [] = Unit
Hold (c ∷ cs) = Holds c × Hold cs

hold_at : (cs : List KeyCase) → Hold cs → (n : ℕ) → n < length cs → Holds (get_or cs n M1)
hold_at [] h n l = absurd (omega arith)
hold_at (c ∷ cs) h zero l = h.0
hold_at (c ∷ cs) h (suc n) l = hold_at cs h.1 n (omega arith)

-- M1 to M11: every case of the table
pub key_cases_hold : (n : ℕ) → n < length key_cases → Holds (get_or key_cases n M1)
key_cases_hold = hold_at key_cases (m1, (m2, (m3, (m4, (m5, (m6, (m7, (m8, (m9, (m10, (m11, tt)))))))))))
