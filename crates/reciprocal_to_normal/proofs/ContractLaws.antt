-- Turns of the contraction with leg 0.
use mathlib.Core.Path.{◌≡◌, refl}
use mathlib.Core.Bool.{Bool, true, false}
use Prim.Native.Nat.{ℕ, ◌+◌, ◌<◌}
use Rattle.phonon.specs.declared.Complex.{Complex}
use Rattle.phonon.specs.Number.{fold}
use Rattle.phonon.specs.Common.{czero, cadd, cmul, is_zero}
use Rattle.phonon.specs.ReciprocalToNormal.{add_unless_zero}
use Rattle.phonon.proofs.Laws.{fold_ext, fold_step}
use Rattle.reciprocal_to_normal.specs.Arrays.{contracted}

module _ {e e' : Complex} {t : Bool} (ee : e ≡ e') (te : t ≡ is_zero e) (x v : Complex) where
  pub pass : t ≡ true → v ≡ add_unless_zero e' x v
  unfolding add_unless_zero
  pass h = rw (← ee, ← te, h)

  pub take_it : t ≡ false → cadd v (cmul x e) ≡ add_unless_zero e' x v
  unfolding add_unless_zero
  take_it h = rw (← ee, ← te, h)

module _ (g e : ℕ → Complex) where
  pub contracted_none : czero ≡ contracted 0 g e
  unfolding contracted fold
  contracted_none = refl

  pub contracted_turn : {v x' e' : Complex} (al : ℕ) → e' ≡ e al → x' ≡ g al → v ≡ contracted al g e → add_unless_zero e' x' v ≡ contracted (al + 1) g e
  unfolding contracted
  contracted_turn al ee ex h = rw (ee, ex, h, fold_step al czero (λ al. add_unless_zero (e al) (g al)))

pub contracted_ext : (n : ℕ) (g g' e e' : ℕ → Complex) → ((al : ℕ) → al < n → g al ≡ g' al) → ((al : ℕ) → al < n → e al ≡ e' al) → contracted n g e ≡ contracted n g' e'
unfolding contracted
contracted_ext n g g' e e' eg ee = fold_ext n _ _ _ (λ al p v. rw (eg al p, ee al p))
