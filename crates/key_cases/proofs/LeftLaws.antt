-- A door's outcome, with the rest of each buffer behind what the door was lent; and what a case says of the buffers.
use Rattle.std.proofs.Common.{◌≡◌, ℕ, zero, suc, Bool, true, false, List, ◌++◌, length, replicate, Result, Ok, Err, sym, refl, ap, ◌∙◌, arith}
use Rattle.std.specs.Result.{is_err}
use Rattle.std.proofs.lemmas.List.{length-replicate}
use Rattle.std.proofs.lemmas.Slice.{put_mid-paste}
use borrow.Rule.Slice.PartMut.{post_of}
use Rattle.phonon.specs.Number.{f0}
use Rattle.phonon.specs.declared.Refusal.{Refusal}
use Rattle.phonon.specs.Answers.{number_of}
use Rattle.phonon.proofs.Answers.{number_positive}
use lib.Ieee.{Float}
use Rattle.phonon.specs.Doors.{StrengthsOutcome, TotalsOutcome, JoinedOutcome}
use Rattle.key_cases.specs.declared.case.Case.{Case}
use Rattle.key_cases.specs.declared.Door.{Door}
use Rattle.key_cases.specs.Left.{Left, strengths_left, totals_left, joined_left, cleared_u, accepted_of, expected_with}

pub strengths_left_lem : (o : StrengthsOutcome) {n : ℕ} {v w : List Float} (rest totals : List Float)
    → ◌≡◌ {A = StrengthsOutcome} (record { answer = n; strengths = v; work = w }) o
    → ◌≡◌ {A = Left} (record { number = n; strengths = v ++ rest; totals = totals; work = w }) (strengths_left o rest totals)
strengths_left_lem o rest totals h = ap (λ (x : StrengthsOutcome). strengths_left x rest totals) h

pub totals_left_lem : (o : TotalsOutcome) {n : ℕ} {u : List Float} (strengths rest work : List Float)
    → ◌≡◌ {A = TotalsOutcome} (record { answer = n; totals = u }) o
    → ◌≡◌ {A = Left} (record { number = n; strengths = strengths; totals = u ++ rest; work = work }) (totals_left o strengths rest work)
totals_left_lem o strengths rest work h = ap (λ (x : TotalsOutcome). totals_left x strengths rest work) h

pub joined_left_lem : (o : JoinedOutcome) {n : ℕ} {v u w : List Float} (rest others : List Float)
    → ◌≡◌ {A = JoinedOutcome} (record { answer = n; strengths = v; totals = u; work = w }) o
    → ◌≡◌ {A = Left} (record { number = n; strengths = v ++ rest; totals = u ++ others; work = w }) (joined_left o rest others)
joined_left_lem o rest others h = ap (λ (x : JoinedOutcome). joined_left x rest others) h

-- ---- what the case says

-- an answer by whether it is a refusal
pub refused_is : (a : Result Unit Refusal) (b : Bool) → b ≡ is_err a → b ≡ true → number_of a ≡ 0 → ⊥
refused_is (Ok x) b e t z = absurd cc
refused_is (Err r) b e t z = let p = number_positive r in omega (arith, p, z)

pub accepted_is : (a : Result Unit Refusal) (b : Bool) → b ≡ is_err a → b ≡ false → number_of a ≡ 0
accepted_is (Ok x) b e f = refl
accepted_is (Err r) b e f = absurd cc

-- the work buffer, of which a part of 203 numbers was filled
pub cleared_by : (work part new : List Float) → length part ≡ 203 → (((y : Float) → y ≡ f0 → y ≡ f0) → new ≡ replicate (length part) f0) → new ++ post_of 0 203 work ≡ cleared_u work
cleared_by work part new l h =
    put_mid-paste 0 203 work new (replicate 203 f0) 203 (h (λ y e. e) ∙ ap (λ (n : ℕ). replicate n f0) l) refl (sym (length-replicate 203 f0))

module _ (m r : ℕ) (door : Door) (c : Case) (strengths totals work : List Float) (e : r ≡ m) where
  pub refused_left : (r ≡ 0 → ⊥) → ◌≡◌ {A = Left} (record { number = m; strengths = strengths; totals = totals; work = work }) (expected_with m door c strengths totals work)
  unfolding expected_with
  refused_left h = go m e
    where
      go : (k : ℕ) → r ≡ k → ◌≡◌ {A = Left} (record { number = k; strengths = strengths; totals = totals; work = work }) (expected_with k door c strengths totals work)
      go zero q = absurd (h q)
      go (suc k) q = refl

  pub accepted_left : (d : Door) {v u x : List Float} → r ≡ 0 → door ≡ d
      → ◌≡◌ {A = Left} (record { number = 0; strengths = v; totals = u; work = x }) (accepted_of d c strengths totals work)
      → ◌≡◌ {A = Left} (record { number = m; strengths = v; totals = u; work = x }) (expected_with m door c strengths totals work)
  unfolding expected_with
  accepted_left d {v} {u} {x} z q h =
      let n : m ≡ 0 = sym e ∙ z in
      rw n (h ∙ ap (λ (y : Door). accepted_of y c strengths totals work) (sym q))

pub left_same : {n : ℕ} {v v' u u' x x' : List Float} → v ≡ v' → u ≡ u' → x ≡ x'
    → ◌≡◌ {A = Left} (record { number = n; strengths = v; totals = u; work = x }) (record { number = n; strengths = v'; totals = u'; work = x' })
left_same a b d = rw (a, b, d) refl
