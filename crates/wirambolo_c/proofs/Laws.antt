-- A choice by its number, and a call's answer, made from the door's.
use Prim.Native.Nat.{ℕ, zero, suc}
use mathlib.Core.Path.{◌≡◌, refl, sym, ap, ◌∙◌}
use mathlib.Core.Bool.{Bool, true, false, cond}
use mathlib.Core.List.{List, [], ◌∷◌}
use lib.Dec.{eqb}
use native.Mathlib.Omega.{arith}
use lib.Ieee.{Float}
use Rattle.std.proofs.Common.{Option, Some, None, slice_get}
use Rattle.std.proofs.lemmas.Bool.{lt-leb}
use Rattle.std.proofs.lemmas.Option.{cond_some}
use Rattle.phonon.specs.Sets.{TotalsSet, JoinedSet}
use Rattle.phonon.specs.Doors.{StrengthsOutcome, TotalsOutcome, JoinedOutcome, totals_outcome, joined_outcome}
use Rattle.integration_weights.specs.Sets.{WeightsSet}
use Rattle.integration_weights.specs.Doors.{WeightsOutcome, weights_outcome}
use Rattle.wirambolo_c.specs.Foreign.{known, shape_known, Strengths, Totals, Joined, WeightsAnswer, strengths_answer, totals_answer, joined_answer, weights_answer}

-- ---- a choice

missing_by : {A : Type 0} (b : Bool) (v : A) → ◌≡◌ {A = Option A} (cond b (Some v) None) None → b ≡ false
missing_by true v e = absurd cc
missing_by false v e = refl

pub given : {A : Type 0} (b : Bool) (v : A) {f : A} {o : Option A} → o ≡ cond b (Some v) None → o ≡ Some f → (b ≡ true) × (f ≡ v)
given b v {f} e h = let p = cond_some b v f (sym e ∙ h) in (p.0, sym p.1)

pub missing : {A : Type 0} (b : Bool) (v : A) {o : Option A} → o ≡ cond b (Some v) None → o ≡ None → b ≡ false
missing b v e h = missing_by b v (sym e ∙ h)

-- of two, and of three
pub of_two : {A : Type 0} (a b : A) (x : ℕ) → slice_get (a ∷ b ∷ []) x ≡ cond (known x) (Some (cond (eqb x 0) a b)) None
unfolding known
of_two a b zero = refl
of_two a b (suc zero) = refl
of_two a b (suc (suc x)) = rw (lt-leb (suc (suc x)) 1 (omega arith)) refl

pub given_two : {A : Type 0} (a b : A) (x : ℕ) {f : A} {o : Option A} → o ≡ slice_get (a ∷ b ∷ []) x → o ≡ Some f → (known x ≡ true) × (f ≡ cond (eqb x 0) a b)
given_two a b x e h = given (known x) (cond (eqb x 0) a b) (e ∙ of_two a b x) h

pub missing_two : {A : Type 0} (a b : A) (x : ℕ) {o : Option A} → o ≡ slice_get (a ∷ b ∷ []) x → o ≡ None → known x ≡ false
missing_two a b x e h = missing (known x) (cond (eqb x 0) a b) (e ∙ of_two a b x) h

pub of_three : {A : Type 0} (a b c : A) (x : ℕ) → slice_get (a ∷ b ∷ c ∷ []) x ≡ cond (shape_known x) (Some (cond (eqb x 0) a (cond (eqb x 1) b c))) None
unfolding shape_known
of_three a b c zero = refl
of_three a b c (suc zero) = refl
of_three a b c (suc (suc zero)) = refl
of_three a b c (suc (suc (suc x))) = rw (lt-leb (suc (suc (suc x))) 2 (omega arith)) refl

-- ---- an answer

pub strengths_unread : {b : Bool} (o : StrengthsOutcome) (v w : List Float) → b ≡ false
    → ◌≡◌ {A = Strengths} (record { answer = 255; strengths = v; work = w }) (strengths_answer b o v w)
unfolding strengths_answer
strengths_unread o v w e = rw e refl

pub strengths_answered : {b : Bool} {o : StrengthsOutcome} (x y : List Float) {v w : List Float} {n : ℕ} → b ≡ true
    → ◌≡◌ {A = StrengthsOutcome} (record { answer = n; strengths = v; work = w }) o
    → ◌≡◌ {A = Strengths} (record { answer = n; strengths = v; work = w }) (strengths_answer b o x y)
unfolding strengths_answer
strengths_answered x y e h = rw e (ap (λ o. record { answer = o.answer; strengths = o.strengths; work = o.work }) h)

pub totals_unread : (b : Bool) (s : TotalsSet) → b ≡ false
    → ◌≡◌ {A = Totals} (record { answer = 255; totals = s.totals }) (totals_answer b s)
unfolding totals_answer
totals_unread b s e = rw e refl

pub totals_answered : (b : Bool) (s : TotalsSet) {v : List Float} {n : ℕ} → b ≡ true
    → ◌≡◌ {A = TotalsOutcome} (record { answer = n; totals = v }) (totals_outcome s)
    → ◌≡◌ {A = Totals} (record { answer = n; totals = v }) (totals_answer b s)
unfolding totals_answer
totals_answered b s e h = rw e (ap (λ o. record { answer = o.answer; totals = o.totals }) h)

pub joined_unread : (b : Bool) (s : JoinedSet) → b ≡ false
    → ◌≡◌ {A = Joined} (record { answer = 255; strengths = s.strengths; totals = s.totals; work = s.work }) (joined_answer b s)
unfolding joined_answer
joined_unread b s e = rw e refl

-- t is the set that the door was handed
pub joined_answered : (b : Bool) (s t : JoinedSet) {v u w : List Float} {n : ℕ} → b ≡ true
    → ◌≡◌ {A = JoinedOutcome} (record { answer = n; strengths = v; totals = u; work = w }) (joined_outcome t) → t ≡ s
    → ◌≡◌ {A = Joined} (record { answer = n; strengths = v; totals = u; work = w }) (joined_answer b s)
unfolding joined_answer
joined_answered b s t e h k = rw e (ap (λ o. record { answer = o.answer; strengths = o.strengths; totals = o.totals; work = o.work }) (h ∙ ap joined_outcome k))

pub weights_unread : (b : Bool) (s : WeightsSet) → b ≡ false
    → ◌≡◌ {A = WeightsAnswer} (record { answer = 255; first = s.first; second = s.second; flags = s.flags }) (weights_answer b s)
unfolding weights_answer
weights_unread b s e = rw e refl

pub weights_answered : (b : Bool) (s : WeightsSet) {u v : List Float} {w : List ℕ} {n : ℕ} → b ≡ true
    → ◌≡◌ {A = WeightsOutcome} (record { answer = n; first = u; second = v; flags = w }) (weights_outcome s)
    → ◌≡◌ {A = WeightsAnswer} (record { answer = n; first = u; second = v; flags = w }) (weights_answer b s)
unfolding weights_answer
weights_answered b s e h = rw e (ap (λ o. record { answer = o.answer; first = o.first; second = o.second; flags = o.flags }) h)
