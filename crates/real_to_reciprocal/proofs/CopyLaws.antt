-- A fold that passes every supercell atom but the copies of y, walked from copy to copy.
use mathlib.Core.Path.{◌≡◌, refl, sym, ap, ◌∙◌}
use mathlib.Core.Bool.{cond}
use mathlib.Core.List.{List}
use Prim.Native.Nat.{ℕ, zero, suc, ◌+◌, ◌-◌, ◌<◌, ◌≤◌}
use native.Mathlib.Omega.{arith}
use lib.IntN.{ℤ, pos}
use lib.Dec.{eqb}
use borrow.Author.Tests.{eq-eqb, ne_eqb}
use Rattle.std.specs.List.{AllWithin, HoldsAt}
use Rattle.std.proofs.lemmas.List.{get_or-drop, take_all}
use lib.ListN.{length, get_or, take, drop, length-drop}
use Rattle.phonon.specs.Number.{index, int, fold}
use Rattle.phonon.proofs.Laws.{fold_add, fold_step}
use Rattle.std.specs.Prelude.{Option, None, Some, MatchOption, ⊤}
use Rattle.real_to_reciprocal.specs.Copies.{FirstCopy, place, NextCopy}

-- turns that change nothing
pub fold_idle : {A : Type 0} (n : ℕ) (s : A) (f : ℕ → A → A) → ((i : ℕ) → i < n → (x : A) → f i x ≡ x) → fold n s f ≡ s
unfolding fold
fold_idle zero s f h = refl
fold_idle (suc n) s f h = h n (omega arith) (fold n s f) ∙ fold_idle n s f (λ i l. h i (omega arith))

pub fold_pass : {A : Type 0} (m n : ℕ) (s : A) (f : ℕ → A → A) → m ≤ n → ((i : ℕ) → m ≤ i → i < n → (x : A) → f i x ≡ x) → fold n s f ≡ fold m s f
fold_pass m n s f l h =
    let e : m + (n - m) ≡ n = omega arith in
    ap (λ (k : ℕ). fold k s f) (sym e) ∙ fold_add m (n - m) s f
    ∙ fold_idle (n - m) (fold m s f) (λ i. f (m + i)) (λ i p x. h (m + i) (omega arith) (omega arith) x)

-- the turns at copies of y alone
abbrev pub at_copies : {A : Type 0} → List ℤ → ℕ → (ℕ → A → A) → ℕ → A → A
at_copies s2p y step k x = cond (eqb (index (int s2p k)) y) (step k x) x

module _ {A : Type 0} (s2p : List ℤ) (S y : ℕ) (s : A) (step : ℕ → A → A) where
  idle : (k : ℕ) → (index (int s2p k) ≡ y → ⊥) → (x : A) → at_copies s2p y step k x ≡ x
  idle k h x = rw (ne_eqb _ _ h)

  -- up to the first copy
  pub walk_start : {r : ℕ} → FirstCopy s2p S y 0 r → s ≡ fold r s (at_copies s2p y step)
  unfolding fold
  walk_start {r} c = sym (fold_pass 0 r s (at_copies s2p y step) (omega arith) (λ k p q x. idle k (c.passed k p q) x))

  -- from copy k to the next
  pub walk_turn : (k : ℕ) {r : ℕ} → index (int s2p k) ≡ y → FirstCopy s2p S (index (int s2p k)) (k + 1) r → step k (fold k s (at_copies s2p y step)) ≡ fold r s (at_copies s2p y step)
  walk_turn k {r} e c =
      let d : FirstCopy s2p S y (k + 1) r = rw e at c in
      sym (fold_pass (k + 1) r s (at_copies s2p y step) d.above (λ i p q x. idle i (d.passed i p q) x) ∙ fold_step k s (at_copies s2p y step) ∙ rw (eq-eqb _ _ e))

-- where a walk stands: at a copy of y, or behind all
abbrev pub At : List ℤ → ℕ → ℕ → Option ℕ → Type 0
At s2p S y (Some k) = (k < S) × (index (int s2p k) ≡ y)
At s2p S y None = ⊤

module _ (s2p : List ℤ) (S y from : ℕ) where
  pub next_at : (o : Option ℕ) → NextCopy s2p S y from o → At s2p S y o
  next_at (Some k) c = (c.1, c.0.copy c.1)
  next_at None c = tt

  pub next_first : (o : Option ℕ) → NextCopy s2p S y from o → FirstCopy s2p S y from (place S o)
  next_first (Some k) c = c.0
  next_first None c = c

-- the first entry of the rest that is y, n places on
module _ (s2p : List ℤ) (y from : ℕ) (l : from ≤ length s2p) where
  abbrev pub Is : ℤ → Type 0
  Is x = index x ≡ y

  abbrev pub IsNot : ℤ → Type 0
  IsNot x = index x ≡ y → ⊥

  abbrev pub rest : List ℤ
  rest = drop from s2p

  pub rest_is : take (length s2p - from) rest ≡ rest
  rest_is = take_all _ _ (let s = length-drop from s2p in omega (arith, s))

  passed_rest : (n : ℕ) → AllWithin IsNot rest 0 n → (k : ℕ) → from ≤ k → k < from + n → index (int s2p k) ≡ y → ⊥
  passed_rest n h k p q e =
      let m : from + (k - from) ≡ k = omega arith in
      h (k - from) (pos 0) (omega arith) (omega arith) (ap index (get_or-drop from s2p (k - from) (pos 0) ∙ ap (λ i. get_or s2p i (pos 0)) m) ∙ e)

  -- what the search of the rest finds
  abbrev pub Found : Option ℕ → Type 0
  Found o = MatchOption o (AllWithin IsNot rest 0 (length rest)) (λ n. (n < length rest) × HoldsAt Is rest n × AllWithin IsNot rest 0 n)

  pub found_rest : (n : ℕ) → (n < length rest) × HoldsAt Is rest n × AllWithin IsNot rest 0 n → NextCopy s2p (length s2p) y from (Some (from + n))
  found_rest n h =
      let s : length rest ≡ length s2p - from = length-drop from s2p in (
        record {
          above = omega arith;
          within = omega (arith, h.0, s);
          passed = passed_rest n h.2;
          copy = λ p. ap index (sym (get_or-drop from s2p n (pos 0))) ∙ h.1 (pos 0);
        },
        omega (arith, h.0, s),
      )

  pub none_rest : AllWithin IsNot rest 0 (length rest) → FirstCopy s2p (length s2p) y from (length s2p)
  none_rest h =
      let s : length rest ≡ length s2p - from = length-drop from s2p in
      record {
        above = l;
        within = omega arith;
        passed = λ k p q. passed_rest (length rest) h k p (omega (arith, s, q));
        copy = λ p. absurd (omega arith);
      }
