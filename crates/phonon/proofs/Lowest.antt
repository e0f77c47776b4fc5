-- The lowest number of the tests that fail: of two groups it is the lower of theirs, and each number is given exactly if a test of that number
-- fails and none of a lower one does.
use Prim.Native.Nat.{ℕ, zero, suc, ◌<◌, ◌≤◌}
use native.Mathlib.Omega.{arith}
use mathlib.Core.Path.{◌≡◌, refl, sym, ap, ◌∙◌}
use native.Mathlib.Decide.{dec_lt}
use mathlib.Core.Bool.{Bool, true, false, ◌&&◌, cond, true≢false}
use mathlib.Core.List.{List, [], ◌∷◌, ◌++◌}
use borrow.Author.Tests.{leb-true, leb-false, le-leb, lt-leb, eqb-true, eqb-false}
use lib.Dec.{leb, eqb}
use Rattle.phonon.specs.Refusal.{Test, lower, lowest, fails, Exactly}
use Rattle.phonon.proofs.Laws.{and_both}

-- ---- the lower of two numbers

pub lower_first : (a b : ℕ) → a ≡ 0 → lower a b ≡ b
unfolding lower
lower_first a b e = rw e refl

pub lower_zero : (a : ℕ) → lower a 0 ≡ a
unfolding lower
lower_zero zero = refl
lower_zero (suc a) = refl

-- the first, if it is a number and no higher
pub lower_least : (a b : ℕ) → 0 < a → a ≤ b → lower a b ≡ a
unfolding lower
lower_least zero b p h = absurd (omega arith)
lower_least (suc a) zero p h = absurd (omega arith)
lower_least (suc a) (suc b) p h = rw (le-leb a b (omega arith)) refl

-- the second, if it is a number and lower
pub lower_second : (a b : ℕ) → 0 < b → b < a → lower a b ≡ b
unfolding lower
lower_second zero b p h = absurd (omega arith)
lower_second (suc a) zero p h = absurd (omega arith)
lower_second (suc a) (suc b) p h = rw (lt-leb a b (omega arith)) refl

pub lower_assoc : (a b c : ℕ) → lower (lower a b) c ≡ lower a (lower b c)
unfolding lower
lower_assoc zero b c = refl
lower_assoc (suc a) zero c = refl
lower_assoc (suc a) (suc b) zero = lower_zero (cond (leb a b) (suc a) (suc b))
lower_assoc (suc a) (suc b) (suc c) = go (leb a b) (leb b c) refl refl
  where
    go : (p q : Bool) → leb a b ≡ p → leb b c ≡ q → lower (cond p (suc a) (suc b)) (suc c) ≡ lower (suc a) (cond q (suc b) (suc c))
    go true true e f = rw (le-leb a c (omega (arith, leb-true a b e, leb-true b c f)), e) refl
    go true false e f = refl
    go false true e f = rw (e, f) refl
    go false false e f = rw (lt-leb a c (omega (arith, leb-false a b e, leb-false b c f)), f) refl

-- of two numbers the lower is none: so are both
pub lower_none : (a b : ℕ) → lower a b ≡ 0 → (a ≡ 0) × (b ≡ 0)
unfolding lower
lower_none zero b e = (refl, e)
lower_none (suc a) zero e = absurd (omega arith)
lower_none (suc a) (suc b) e = go (leb a b) e
  where
    go : (c : Bool) → cond c (suc a) (suc b) ≡ 0 → (suc a ≡ 0) × (suc b ≡ 0)
    go true f = absurd (omega arith)
    go false f = absurd (omega arith)

-- of three
pub none_of_three : {a b c d e : ℕ} → d ≡ lower b c → e ≡ lower a d → e ≡ 0 → (a ≡ 0) × (b ≡ 0) × (c ≡ 0)
none_of_three {a} {b} {c} {d} {e} p q z =
    let f = lower_none a d (sym q ∙ z) in
    let g = lower_none b c (sym p ∙ f.1) in
    (f.0, g.0, g.1)

lower_most : (a b n : ℕ) → a ≤ n → b ≤ n → lower a b ≤ n
unfolding lower
lower_most zero b n p q = q
lower_most (suc a) zero n p q = p
lower_most (suc a) (suc b) n p q = go (leb a b)
  where
    go : (c : Bool) → cond c (suc a) (suc b) ≤ n
    go true = p
    go false = q

-- ---- the numbers of a group, by computation: none is below n, none is above n

abbrev pub least : ℕ → List Test → Bool
least n [] = true
least n (t ∷ ts) = leb n t.number && least n ts

abbrev pub most : ℕ → List Test → Bool
most n [] = true
most n (t ∷ ts) = leb t.number n && most n ts

least_given : (n : ℕ) (ts : List Test) → least (suc n) ts ≡ true → lower (suc n) (lowest ts) ≡ suc n
unfolding lowest
least_given n [] h = lower_zero (suc n)
least_given n (t ∷ ts) h =
    let p = and_both (leb (suc n) t.number) (least (suc n) ts) h in
    go t.good (leb-true (suc n) t.number p.0) (least_given n ts p.1)
  where
    go : (b : Bool) → suc n ≤ t.number → lower (suc n) (lowest ts) ≡ suc n → lower (suc n) (cond b (lowest ts) (lower t.number (lowest ts))) ≡ suc n
    go true l e = e
    go false l e = sym (lower_assoc (suc n) t.number (lowest ts)) ∙ ap (λ k. lower k (lowest ts)) (lower_least (suc n) t.number (omega arith) l) ∙ e

most_given : (n : ℕ) (ts : List Test) → most n ts ≡ true → lowest ts ≤ n
unfolding lowest
most_given n [] h = omega arith
most_given n (t ∷ ts) h =
    let p = and_both (leb t.number n) (most n ts) h in
    go t.good (leb-true t.number n p.0) (most_given n ts p.1)
  where
    go : (b : Bool) → t.number ≤ n → lowest ts ≤ n → cond b (lowest ts) (lower t.number (lowest ts)) ≤ n
    go true l e = e
    go false l e = lower_most t.number (lowest ts) n l e

-- ---- a walk along a group whose numbers rise: a test that is passed, and the first that fails

pub pass : (n : ℕ) (ts : List Test) {b : Bool} → b ≡ true → lowest (record { number = n; good = b } ∷ ts) ≡ lowest ts
unfolding lowest
pass n ts e = rw e

pub stop : (n : ℕ) (ts : List Test) {b : Bool} → least (suc n) ts ≡ true → b ≡ false → lowest (record { number = suc n; good = b } ∷ ts) ≡ suc n
unfolding lowest
stop n ts h e = rw e (least_given n ts h)

pub none_left : lowest [] ≡ 0
unfolding lowest
none_left = refl

-- ---- groups together

pub lowest_append : (xs ys : List Test) → lowest (xs ++ ys) ≡ lower (lowest xs) (lowest ys)
unfolding lowest lower
lowest_append [] ys = refl
lowest_append (t ∷ ts) ys = go t.good (lowest_append ts ys)
  where
    go : (b : Bool) → lowest (ts ++ ys) ≡ lower (lowest ts) (lowest ys)
        → cond b (lowest (ts ++ ys)) (lower t.number (lowest (ts ++ ys))) ≡ lower (cond b (lowest ts) (lower t.number (lowest ts))) (lowest ys)
    go true e = e
    go false e = ap (lower t.number) e ∙ sym (lower_assoc t.number (lowest ts) (lowest ys))

-- the numbers of two groups and of three, joined
pub join : (xs ys : List Test) {a b c : ℕ} → a ≡ lowest xs → b ≡ lowest ys → c ≡ lower a b → c ≡ lowest (xs ++ ys)
join xs ys p q e = rw (e, p, q) (sym (lowest_append xs ys))

pub join3 : (xs ys zs : List Test) {a b c d e : ℕ} → a ≡ lowest xs → b ≡ lowest ys → c ≡ lowest zs → d ≡ lower b c → e ≡ lower a d → e ≡ lowest (xs ++ (ys ++ zs))
join3 xs ys zs p q r f g = join xs (ys ++ zs) p (join ys zs q r f) g

-- none of two groups fails
pub none_both : (xs ys : List Test) → lowest (xs ++ ys) ≡ 0 → (lowest xs ≡ 0) × (lowest ys ≡ 0)
none_both xs ys e = lower_none _ _ (sym (lowest_append xs ys) ∙ e)

pub none_append : (xs ys : List Test) → lowest xs ≡ 0 → lowest ys ≡ 0 → lowest (xs ++ ys) ≡ 0
unfolding lower
none_append xs ys p q = lowest_append xs ys ∙ rw (p, q) refl

-- a group that fails, before one last test of a number that is no lower; and a group that passes
pub before_last : (m : ℕ) (xs : List Test) (b : Bool) {n : ℕ} → most m xs ≡ true → n ≡ lowest xs → 0 < n → lowest (xs ++ (record { number = m; good = b } ∷ [])) ≡ n
unfolding lowest
before_last m xs b {n} h e p =
    lowest_append xs _ ∙ ap (λ k. lower k (lowest (record { number = m; good = b } ∷ []))) (sym e) ∙ go b
  where
    l : n ≤ m
    l = rw e (most_given m xs h)

    go : (c : Bool) → lower n (cond c 0 (lower m 0)) ≡ n
    go true = lower_zero n
    go false = ap (lower n) (lower_zero m) ∙ lower_least n m p l

pub at_last : (xs ys : List Test) → 0 ≡ lowest xs → lowest (xs ++ ys) ≡ lowest ys
unfolding lower
at_last xs ys e = lowest_append xs ys ∙ ap (λ k. lower k (lowest ys)) (sym e)

-- ---- no test fails, and each passes

abbrev pub Passing : List Test → Type 0
Passing [] = Unit
Passing (t ∷ ts) = (t.good ≡ true) × Passing ts

pub passing : (ts : List Test) → least 1 ts ≡ true → lowest ts ≡ 0 → Passing ts
unfolding lowest
passing [] h e = tt
passing (t ∷ ts) h e =
    let p = and_both (leb 1 t.number) (least 1 ts) h in
    let q = go t.good (leb-true 1 t.number p.0) e in
    (q.0, passing ts p.1 q.1)
  where
    go : (b : Bool) → 1 ≤ t.number → cond b (lowest ts) (lower t.number (lowest ts)) ≡ 0 → (b ≡ true) × (lowest ts ≡ 0)
    go true l f = (refl, f)
    go false l f = absurd (omega (arith, (lower_none t.number (lowest ts) f).0))

pub none_fails : (ts : List Test) → Passing ts → lowest ts ≡ 0
unfolding lowest
none_fails [] h = refl
none_fails (t ∷ ts) h = rw h.0 (none_fails ts h.1)

-- ---- a test of number 1 that fails, wherever it stands

lower_one : (a : ℕ) → lower a 1 ≡ 1
unfolding lower
lower_one zero = refl
lower_one (suc zero) = refl
lower_one (suc (suc a)) = rw (lt-leb (suc a) 0 (omega arith)) refl

pub one_fails : (xs ys : List Test) {b : Bool} → least 1 ys ≡ true → b ≡ false → lowest (xs ++ (record { number = 1; good = b } ∷ ys)) ≡ 1
one_fails xs ys h e = lowest_append xs _ ∙ ap (lower (lowest xs)) (stop 0 ys h e) ∙ lower_one (lowest xs)

-- ---- each number is given exactly if a test of it fails and none of a lower one does

given_fails : (n : ℕ) (ts : List Test) → lowest ts ≡ suc n → fails (suc n) ts ≡ true
unfolding lowest lower
given_fails n [] e = absurd (omega arith)
given_fails n (t ∷ ts) e = by_good t.good e (given_fails n ts)
  where
    either : (a b : ℕ) → lower a b ≡ suc n → (b ≡ suc n → fails (suc n) ts ≡ true) → cond (eqb a (suc n)) true (fails (suc n) ts) ≡ true
    either a b p f = pick (eqb a (suc n)) refl
      where
        second : (x y : ℕ) → lower x y ≡ suc n → eqb x (suc n) ≡ false → y ≡ suc n
        second zero y q h = q
        second (suc x) zero q h = absurd (eqb-false (suc x) (suc n) h q)
        second (suc x) (suc y) q h = of (leb x y) q
          where
            of : (c : Bool) → cond c (suc x) (suc y) ≡ suc n → suc y ≡ suc n
            of true r = absurd (eqb-false (suc x) (suc n) h r)
            of false r = r

        pick : (c : Bool) → eqb a (suc n) ≡ c → cond c true (fails (suc n) ts) ≡ true
        pick true h = refl
        pick false h = f (second a b p h)

    by_good : (c : Bool) → cond c (lowest ts) (lower t.number (lowest ts)) ≡ suc n → (lowest ts ≡ suc n → fails (suc n) ts ≡ true)
        → cond c (fails (suc n) ts) (cond (eqb t.number (suc n)) true (fails (suc n) ts)) ≡ true
    by_good true p f = f p
    by_good false p f = either t.number (lowest ts) p f

lower_under : (a b k : ℕ) → 0 < k → ((0 < a) × (a ≤ k)) → (0 < lower a b) × (lower a b ≤ k)
unfolding lower
lower_under zero b k p h = absurd (omega arith)
lower_under (suc a) zero k p h = h
lower_under (suc a) (suc b) k p h = of (leb a b) refl
  where
    of : (c : Bool) → leb a b ≡ c → (0 < cond c (suc a) (suc b)) × (cond c (suc a) (suc b) ≤ k)
    of true e = h
    of false e = (omega arith, omega (arith, leb-false a b e, h.1))

lower_below : (a b k : ℕ) → 0 < k → ((0 < b) × (b ≤ k)) → (0 < lower a b) × (lower a b ≤ k)
unfolding lower
lower_below zero b k p h = h
lower_below (suc a) zero k p h = absurd (omega arith)
lower_below (suc a) (suc b) k p h = of (leb a b) refl
  where
    of : (c : Bool) → leb a b ≡ c → (0 < cond c (suc a) (suc b)) × (cond c (suc a) (suc b) ≤ k)
    of true e = (omega arith, omega (arith, leb-true a b e, h.1))
    of false e = h

fails_given : (k : ℕ) (ts : List Test) → 0 < k → fails k ts ≡ true → (0 < lowest ts) × (lowest ts ≤ k)
unfolding lowest
fails_given k [] p e = absurd (true≢false (sym e))
fails_given k (t ∷ ts) p e = by_good t.good e (fails_given k ts p)
  where
    by_good : (c : Bool) → cond c (fails k ts) (cond (eqb t.number k) true (fails k ts)) ≡ true → (fails k ts ≡ true → (0 < lowest ts) × (lowest ts ≤ k))
        → (0 < cond c (lowest ts) (lower t.number (lowest ts))) × (cond c (lowest ts) (lower t.number (lowest ts)) ≤ k)
    by_good true q f = f q
    by_good false q f = pick (eqb t.number k) refl q
      where
        pick : (d : Bool) → eqb t.number k ≡ d → cond d true (fails k ts) ≡ true → (0 < lower t.number (lowest ts)) × (lower t.number (lowest ts) ≤ k)
        pick true h r = let s = eqb-true t.number k h in lower_under t.number (lowest ts) k p (omega arith, omega arith)
        pick false h r = lower_below t.number (lowest ts) k p (f r)

pub exact : (ts : List Test) (n : ℕ) → lowest ts ≡ suc n → Exactly (suc n) ts
exact ts n e =
    record {
      some = given_fails n ts e;
      none_lower = λ k p l. of k p l (fails k ts) refl;
    }
  where
    of : (k : ℕ) → 0 < k → k < suc n → (b : Bool) → fails k ts ≡ b → b ≡ false
    of k p l true h = absurd (omega (arith, fails_given k ts p h, e))
    of k p l false h = refl

pub exactly : (ts : List Test) (n : ℕ) → Exactly (suc n) ts → lowest ts ≡ suc n
exactly ts n h = of (lowest ts) refl (fails_given (suc n) ts (omega arith) h.some)
  where
    of : (m : ℕ) → lowest ts ≡ m → (0 < lowest ts) × (lowest ts ≤ suc n) → lowest ts ≡ suc n
    of zero e g = absurd (omega (arith, g, e))
    of (suc m) e g = pick (dec_lt (suc m) (suc n))
      where
        pick : Dec (suc m < suc n) → lowest ts ≡ suc n
        pick (yes l) = absurd (true≢false (sym (given_fails m ts e) ∙ h.none_lower (suc m) (omega arith) l))
        pick (no l) = omega (arith, g, e)
