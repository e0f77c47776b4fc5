-- Where the work buffer holds the definitions' lists: P atoms, B = 3 * P bands.
use Rattle.std.specs.Prelude.{List, ℕ, ◌+◌, ◌*◌, ◌/◌, ◌%◌, Float}
use Rattle.phonon.specs.declared.Complex.{Complex}
use Rattle.phonon.specs.Number.{at}
use Rattle.phonon.specs.Common.{ctable}
use Rattle.phonon.specs.ReciprocalToNormal.{Phonon}
use Rattle.planes.specs.Split.{split}

-- The force constants in reciprocal space, from fo on: for each component al of the first leg two planes of B * B numbers, in which
-- entry (al, bm, cn) is number cn * B + bm.
abbrev pub constant_at : List Float → ℕ → ℕ → ℕ → ℕ → ℕ → Complex
constant_at l fo P al bm cn = split l (fo + 2 * (al * (3 * P * (3 * P)))) (3 * P * (3 * P)) (cn * (3 * P) + bm)

-- number t of the definition's list is element (l, m, n) = (t % 27 / 9, t % 27 % 9 / 3, t % 27 % 3) of atoms (t / 27 / P / P, t / 27 / P % P, t / 27 % P)
unfoldable pub constant_entry : List Float → ℕ → ℕ → ℕ → Complex
constant_entry l fo P t =
    constant_at l fo P (3 * (t / 27 / P / P) + t % 27 / 9) (3 * (t / 27 / P % P) + t % 27 % 9 / 3) (3 * (t / 27 % P) + t % 27 % 3)

-- the force constants that the planes from fo on hold, as the definition's list
unfoldable pub constants_in : List Float → ℕ → ℕ → List Float
constants_in l fo P = ctable (P * P * P * 27) (constant_entry l fo P)

-- the n complex numbers that the planes from off on hold, d places apart, as a list
unfoldable pub numbers_in : List Float → ℕ → ℕ → ℕ → List Float
numbers_in l off d n = ctable n (split l off d)

-- The scaled eigenvectors of one leg, from eo on: two planes of B * B numbers, in which component m of band n is number m * B + n.
unfoldable pub column_in : List Float → ℕ → ℕ → ℕ → List Float
column_in l eo B n = ctable B (λ m. split l eo (B * B) (m * B + n))

-- band n of that leg, of these frequencies
abbrev pub phonon_in : List Float → ℕ → ℕ → List Float → ℕ → Phonon
phonon_in l eo B frequencies n = record { frequency = at frequencies n; column = column_in l eo B n }
