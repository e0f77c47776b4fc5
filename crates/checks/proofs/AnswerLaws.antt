-- What a check's answer tells: of one test, of a group of tests, and a door.
use Prim.Native.Nat.{ℕ, zero, suc, ◌<◌}
use mathlib.Core.Bool.{Bool, true, false, cond}
use mathlib.Core.List.{List, [], ◌∷◌}
use mathlib.Core.Path.{◌≡◌, refl, sym, ◌∙◌}
use native.Mathlib.Omega.{arith}
use Rattle.std.specs.Prelude.{Result, Ok, Err, IsErrAnd}
use Rattle.phonon.specs.declared.Refusal.{Refusal}
use Rattle.phonon.specs.Answers.{number, number_of}
use Rattle.phonon.specs.Refusal.{Test, lowest}
use Rattle.phonon.proofs.Lowest.{lower_zero, pass, stop, least}
use Rattle.phonon.proofs.Answers.{number_positive}

-- ---- one test that is required

abbrev pub required : Bool → Refusal → Result Unit Refusal
required good e = cond good (Ok tt) (Err e)

passed_by : (good : Bool) (e : Refusal) (x : Unit) → required good e ≡ Ok x → good ≡ true
passed_by true e x p = refl
passed_by false e x p = absurd cc

failed_by : (good : Bool) (e r : Refusal) → required good e ≡ Err r → (good ≡ false) × (r ≡ e)
failed_by true e r p = absurd cc
failed_by false e r p = (refl, cc)

pub passed : (good : Bool) (e : Refusal) {a : Result Unit Refusal} {x : Unit} → a ≡ required good e → a ≡ Ok x → good ≡ true
passed good e {a} {x} p q = passed_by good e x (sym p ∙ q)

pub failed : (good : Bool) (e : Refusal) {r : Refusal} {a : Result Unit Refusal} → a ≡ required good e → a ≡ Err r → (good ≡ false) × (r ≡ e)
failed good e {r} p q = failed_by good e r (sym p ∙ q)

-- `?` hands a refusal on as it is
pub handed_on : {T : Type 0} (a : Result T Refusal) {e : Refusal} → IsErrAnd a (λ r. r ≡ e) → a ≡ Err e
handed_on (Ok x) h = absurd h
handed_on (Err r) h = rw h refl

-- ---- tests of a group whose numbers rise, each required by its number: g is what a call told of the test

-- a test is passed
pub walked : (e : Refusal) (ts : List Test) {g good : Bool} {a : Result Unit Refusal} {x : Unit} → g ≡ good → a ≡ required g e → a ≡ Ok x
    → lowest (record { number = number e; good = good } ∷ ts) ≡ lowest ts
walked e ts q p h = pass (number e) ts (sym q ∙ passed _ e p h)

stop_by : (n : ℕ) (ts : List Test) {b : Bool} → 0 < n → least n ts ≡ true → b ≡ false → lowest (record { number = n; good = b } ∷ ts) ≡ n
stop_by zero ts h l e = absurd (omega arith)
stop_by (suc n) ts h l e = stop n ts l e

-- it fails, and `?` hands its refusal on
pub turned : (e : Refusal) (ts : List Test) (b : Result Unit Refusal) {g good : Bool} {a : Result Unit Refusal} {r : Refusal} → least (number e) ts ≡ true → g ≡ good → a ≡ required g e → a ≡ Err r
    → IsErrAnd b (λ y. y ≡ r) → number_of b ≡ lowest (record { number = number e; good = good } ∷ ts)
turned e ts b l q p h k =
    let f = failed _ e p h in
    rw (handed_on b k, f.1) (sym (stop_by (number e) ts (number_positive e) l (sym q ∙ f.0)))

-- the number of a group of one test
one_by : (good : Bool) (e : Refusal) → number_of (required good e) ≡ lowest (record { number = number e; good = good } ∷ [])
unfolding lowest
one_by true e = refl
one_by false e = sym (lower_zero (number e))

pub of_one : (e : Refusal) {g good : Bool} {a : Result Unit Refusal} → g ≡ good → a ≡ required g e → number_of a ≡ lowest (record { number = number e; good = good } ∷ [])
of_one e q p = rw (p, q) (one_by _ e)

-- ---- of any door: leaves n is the outcome of a set whose refusal is n, and kept n that of the answer n with the buffers as found

pub turned_back : {O : Type 0} (leaves kept : ℕ → O) → ((n : ℕ) → kept (suc n) ≡ leaves (suc n)) → {n r : ℕ} → 0 < n → n ≡ r → kept n ≡ leaves r
turned_back leaves kept same {n} h e = rw (← e) (go n h)
  where
    go : (k : ℕ) → 0 < k → kept k ≡ leaves k
    go zero l = absurd (omega arith)
    go (suc k) l = same k
