-- The contractions over arrays, as the work buffer holds them.
use Rattle.std.specs.Prelude.{ℕ, ◌+◌, ◌*◌}
use Rattle.phonon.specs.declared.Complex.{Complex}
use Rattle.phonon.specs.Number.{fold}
use Rattle.phonon.specs.Common.{czero}
use Rattle.phonon.specs.ReciprocalToNormal.{add_unless_zero, dot}

-- the sum of g al * e al over the al below n whose e al is not zero
unfoldable pub contracted : ℕ → (ℕ → Complex) → (ℕ → Complex) → Complex
contracted n g e = fold n czero (λ al. add_unless_zero (e al) (g al))

-- Of bands j and k of legs 1 and 2, B bands each: entry (bm, cn) of the contracted matrix is number cn * B + bm of m, and component i of
-- band n of a leg is number i * B + n of e1 or e2.
unfoldable pub amplitude_from : ℕ → (ℕ → Complex) → (ℕ → Complex) → (ℕ → Complex) → ℕ → ℕ → Complex
amplitude_from B m e1 e2 j k =
    dot B (λ bm. dot B (λ cn. m (cn * B + bm)) (λ cn. e2 (cn * B + k))) (λ bm. e1 (bm * B + j))
