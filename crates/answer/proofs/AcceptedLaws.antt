-- What an accepted carton tells of its measures.
use Prim.Native.Nat.{ℕ, zero, suc, ◌*◌, ◌≤◌}
use mathlib.Core.Path.{◌≡◌, refl, sym, ◌∙◌, ap}
use mathlib.Core.List.{List}
use native.Mathlib.Decide.{dec_le}
use native.Mathlib.Nat.{mul-le-mul}
use native.Mathlib.Omega.{arith}
use lib.Ieee.{Float}
use Rattle.phonon.specs.Sets.{JoinedSet, triplet_of, bands_of}
use Rattle.phonon.specs.Limits.{work_length}
use Rattle.phonon.specs.Refusal.{joined_refusal}
use Rattle.phonon.specs.Doors.{JoinedOutcome, joined_leaves, joined_outcome}
use Rattle.phonon.proofs.Accepted.{Measured, accepted_facts}
use Rattle.phonon.proofs.Shares.{joined_share}
use Rattle.carton.specs.declared.heading.Heading.{Heading}
use Rattle.carton.specs.Fitted.{Fitted}
use Rattle.carton.specs.Most.{most_work}
use Rattle.carton.specs.Tables.{Columns, set_in}
use Rattle.text.specs.Room.{most_key_bands}

accepts : (n : ℕ) (s : JoinedSet) → (joined_leaves n s).answer ≡ 0 → n ≡ 0
unfolding joined_leaves
accepts zero s e = refl
accepts (suc n) s e = absurd (let y : ◌≡◌ {A = ℕ} 0 1 = cc in omega arith)

measures_of_lem : (s : JoinedSet) → (joined_outcome s).answer ≡ 0 → Measured s.tables.measures
unfolding joined_outcome
measures_of_lem s e = (accepted_facts (triplet_of s) (joined_share s (accepts (joined_refusal s) s e))).measured

-- with its work buffer in 6,144 numbers
pub three_atoms : (p s : ℕ) → work_length p s ≤ most_work → p ≤ 3
unfolding work_length
three_atoms p s h = go (dec_le 4 p)
  where
    go : Dec (4 ≤ p) → p ≤ 3
    go (yes l) =
        let square : 4 * 4 ≤ p * p = mul-le-mul l l in
        let cube : 16 * 4 ≤ p * p * p = mul-le-mul square l in
        absurd (omega arith)
    go (no l) = omega arith

-- so there are few lines
pub record Few (h : Heading) : Type 0 where
  pub bands : bands_of h.measures ≤ most_key_bands
  pub first : h.measures.first ≤ most_key_bands

pub few : (w : Columns) (h : Heading) (n : ℕ) (v u k : List Float) (o : JoinedOutcome) → Fitted h n → o ≡ joined_outcome (set_in w h v u k) → o.answer ≡ 0 → Few h
unfolding set_in
few w h n v u k o f e a =
    let p = three_atoms h.measures.atoms h.measures.supercell f.work in
    let q = (measures_of_lem (set_in w h v u k) (sym (ap (λ (x : JoinedOutcome). x.answer) e) ∙ a)).first_most in
    record { bands = omega arith; first = omega arith }
