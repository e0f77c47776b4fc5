-- A list whose entries are replaced one by one, from the first on, and what it is in the end.
use mathlib.Core.Path.{◌≡◌, refl, sym, ◌∙◌, subst}
use mathlib.Core.List.{List, map}
use Prim.Native.Nat.{ℕ, ◌+◌, ◌<◌, ◌≤◌}
use native.Mathlib.Decide.{dec_lt}
use native.Mathlib.Omega.{arith}
use lib.ListN.{length, set, length-set}
use lib.Seq.{ext_get_or}
use lib.Ieee.{Float, nan}
use Rattle.std.proofs.lemmas.List.{length-map, get_or-map, get_or-set_same, get_or-set_other}
use Rattle.phonon.specs.Number.{at}

-- l' is l with entry j replaced by f j, for each j below k
pub record Changed (f : ℕ → Float) (k : ℕ) (l l' : List Float) : Type 0 where
  pub long : length l' ≡ length l
  pub done : (j : ℕ) → j < k → at l' j ≡ f j
  pub rest : (j : ℕ) → k ≤ j → at l' j ≡ at l j

module _ {f : ℕ → Float} {l : List Float} where
  pub changed_none : Changed f 0 l l
  changed_none = record { long = refl; done = λ j h. absurd (omega arith); rest = λ j h. refl }

  pub changed_more : {k : ℕ} {l' : List Float} {y : Float} → k < length l → y ≡ f k → Changed f k l l' → Changed f (k + 1) l (set l' k y)
  changed_more {k} {l'} {y} h e c =
      record {
        long = simp length-set c.long;
        done = λ j p. go j p (dec_lt j k);
        rest = λ j p. get_or-set_other l' k j y nan (λ e. omega arith) ∙ c.rest j (omega arith);
      }
    where
      go : (j : ℕ) → j < k + 1 → Dec (j < k) → at (set l' k y) j ≡ f j
      go j p (yes q) = get_or-set_other l' k j y nan (λ e. omega arith) ∙ c.done j q
      go j p (no n) = subst (λ (i : ℕ). at (set l' k y) i ≡ f i) (omega arith) (get_or-set_same l' k y nan (omega (arith, c.long)) ∙ e)

  -- the same where the places are counted otherwise
  pub changed_at : {k m n : ℕ} {l' : List Float} {y : Float} → n ≡ k → m ≡ k + 1 → n < length l → y ≡ f n → Changed f k l l' → Changed f m l (set l' n y)
  changed_at {k} {m} {n} {l'} {y} p q h e c = subst (λ (j : ℕ). Changed f j l (set l' n y)) (omega (arith, p, q)) (changed_more h e (subst (λ (j : ℕ). Changed f j l l') (sym p) c))

  -- all entries: a function of those of x
  pub changed_whole : (g : Float → Float) (x : List Float) {k : ℕ} {l' : List Float} → length l ≡ length x → length x ≤ k → ((j : ℕ) → j < length x → f j ≡ g (at x j)) → Changed f k l l' → l' ≡ map g x
  changed_whole g x {k} {l'} size h e c =
      ext_get_or nan l' (map g x) (c.long ∙ size ∙ sym (length-map x g)) (λ j p.
      let m : j < length x = omega (arith, c.long, size) in
      c.done j (omega arith) ∙ e j m ∙ sym (get_or-map g x j nan nan m))
