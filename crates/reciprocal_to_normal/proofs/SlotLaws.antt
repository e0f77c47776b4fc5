-- Slots visited in listing order (b, k, j): one slot more, one column more, one plane more, and all slots as an equation of lists.
use mathlib.Core.Path.{◌≡◌, refl, sym, ap, ◌∙◌}
use mathlib.Core.Logic.{◌⊎◌, inl, inr, ⊎_elim}
use mathlib.Core.List.{List}
use mathlib.Core.Bool.{Bool, true, false, cond}
use Prim.Native.Nat.{ℕ, ◌+◌, ◌*◌, ◌/◌, ◌%◌, ◌<◌}
use native.Mathlib.Nat.{div-add-mod', mod-lt, div-lt_iff_lt-mul, eq-or-lt_of_le}
use native.Mathlib.Omega.{arith}
use lib.ListN.{length, set, length-set}
use lib.Seq.{ext_get_or, get_or-set_same, get_or-set_other}
use lib.Ieee.{Float, nan}
use Rattle.phonon.specs.Number.{at, table}
use Rattle.phonon.specs.Sets.{slot}
use Rattle.phonon.proofs.Laws.{table_at, table_length, div_of, mod_of}
use Rattle.reciprocal_to_normal.specs.Slots.{Visited, b_of, j_of, k_of, InColumn, InPlane, InAll}

pub visited_ext : {l l' : List Float} {p : ℕ → Bool} {v v' : ℕ → Float} {N : ℕ} {D : ℕ → Type 0} → Visited l l' p v N D → ((n : ℕ) → n < N → D n → v n ≡ v' n) → Visited l l' p v' N D
visited_ext {l} {p = p} w e = record { size = w.size; done = λ n q d. w.done n q d ∙ ap (λ x. cond (p n) (at l n) x) (e n q d); rest = w.rest }

-- the slot by another name
pub visited_at : {l l' : List Float} {p : ℕ → Bool} {v : ℕ → Float} {N i i' : ℕ} → i ≡ i' → Visited l l' p v N (λ n. n ≡ i) → Visited l l' p v N (λ n. n ≡ i')
visited_at e w = rw e at w

module _ (p : ℕ → Bool) (v : ℕ → Float) (N : ℕ) where
  pub visited_none : (l : List Float) (D : ℕ → Type 0) → ((n : ℕ) → n < N → D n → ⊥) → Visited l l p v N D
  visited_none l D h = record { size = refl; done = λ n q d. absurd (h n q d); rest = λ n q d. refl }

  -- the slot i alone
  pub visited_put : (l : List Float) (i : ℕ) (x : Float) → i < length l → p i ≡ false → x ≡ v i → Visited l (set l i x) p v N (λ n. n ≡ i)
  visited_put l i x h e ex =
      record {
        size = length-set l i x;
        done = λ n q d. rw (d, e) (get_or-set_same l i x nan h ∙ ex);
        rest = λ n q d. get_or-set_other l i n x nan d;
      }

  pub visited_pass : (l : List Float) (i : ℕ) → p i ≡ true → Visited l l p v N (λ n. n ≡ i)
  visited_pass l i e = record { size = refl; done = λ n q d. rw (d, e); rest = λ n q d. refl }

  pub visited_then : {l l₁ l₂ : List Float} {D E : ℕ → Type 0} (F : ℕ → Type 0) → Visited l l₁ p v N D → Visited l₁ l₂ p v N E
      → ((n : ℕ) → n < N → D n → E n → ⊥) → ((n : ℕ) → n < N → D n → F n) → ((n : ℕ) → n < N → E n → F n) → ((n : ℕ) → n < N → F n → D n ⊎ E n) → Visited l l₂ p v N F
  visited_then {l} {l₁} {l₂} {D} {E} F u w apart df ef fde =
      record {
        size = w.size ∙ u.size;
        done = λ n q f. ⊎_elim
            (λ (d : D n). w.rest n q (apart n q d) ∙ u.done n q d)
            (λ (e : E n). w.done n q e ∙ ap (λ x. cond (p n) x (v n)) (u.rest n q (λ d. apart n q d e)))
            (fde n q f);
        rest = λ n q f. w.rest n q (λ e. f (ef n q e)) ∙ u.rest n q (λ d. f (df n q d));
      }

  pub visited_table : {l l' : List Float} {D : ℕ → Type 0} → Visited l l' p v N D → length l ≡ N → ((n : ℕ) → n < N → D n) → l' ≡ table N (λ n. cond (p n) (at l n) (v n))
  visited_table {l} {l'} w e h =
      ext_get_or nan l' (table N (λ n. cond (p n) (at l n) (v n))) (w.size ∙ e ∙ sym (table_length N (λ n. cond (p n) (at l n) (v n))))
      (λ n q. let r : n < N = omega (arith, w.size, e) in w.done n r (h n r) ∙ sym (table_at N n (λ n. cond (p n) (at l n) (v n)) nan r))

-- ---- the coordinates of a slot

module _ (B : ℕ) where
  pub slot_of : (n : ℕ) → slot B (b_of B n) (j_of B n) (k_of B n) ≡ n
  unfolding b_of j_of k_of
  slot_of n = ap (λ (x : ℕ). x * B + n % B) (div-add-mod' (n / B) B) ∙ div-add-mod' n B

  module _ {j k : ℕ} (pj : j < B) (pk : k < B) (b : ℕ) where
    pub b_of_lem : b_of B (slot B b j k) ≡ b
    unfolding b_of
    b_of_lem = ap (λ (x : ℕ). x / B) (div_of B pk (b * B + j)) ∙ div_of B pj b

    pub j_of_lem : j_of B (slot B b j k) ≡ j
    unfolding j_of
    j_of_lem = ap (λ (x : ℕ). x % B) (div_of B pk (b * B + j)) ∙ mod_of B pj b

    pub k_of_lem : k_of B (slot B b j k) ≡ k
    unfolding k_of
    k_of_lem = mod_of B pk (b * B + j)

  pub j_lt : (n : ℕ) → 0 < B → j_of B n < B
  unfolding j_of
  j_lt n h = mod-lt (n / B) h

  pub k_lt : (n : ℕ) → 0 < B → k_of B n < B
  unfolding k_of
  k_lt n h = mod-lt n h

  pub b_lt : (F n : ℕ) → 0 < B → n < F * B * B → b_of B n < F
  unfolding b_of
  b_lt F n h p = (div-lt_iff_lt-mul h).1 ((div-lt_iff_lt-mul h).1 p)

-- ---- the steps of the three loops

module _ (p : ℕ → Bool) (v : ℕ → Float) (N B : ℕ) where
  -- one slot more in column (b, k)
  pub column_step : {l l₁ l₂ : List Float} (b k j : ℕ) → j < B → k < B → Visited l l₁ p v N (InColumn B b k j) → Visited l₁ l₂ p v N (λ n. n ≡ slot B b j k) → Visited l l₂ p v N (InColumn B b k (j + 1))
  column_step b k j pj pk u w =
      let eb = b_of_lem B pj pk b in
      let ej = j_of_lem B pj pk b in
      let ek = k_of_lem B pj pk b in
      visited_then p v N (InColumn B b k (j + 1)) u w
      (λ n q d e. let f : j_of B n ≡ j = ap (j_of B) e ∙ ej in let g : j_of B n < j = d.2 in omega arith)
      (λ n q d. (d.0, d.1, omega (arith, d.2)))
      (λ n q e. (ap (b_of B) e ∙ eb, ap (k_of B) e ∙ ek, omega (arith, ap (j_of B) e ∙ ej)))
      (λ n q f. ⊎_elim
      (λ (e : j_of B n ≡ j). inr (sym (slot_of B n) ∙ rw (f.0, f.1, e)))
      (λ (h : j_of B n < j). inl (f.0, f.1, h))
      (eq-or-lt_of_le {n = j_of B n} {m = j} (omega (arith, f.2))))

  -- one column more in plane b
  pub plane_step : {l l₁ l₂ : List Float} (b k : ℕ) → 0 < B → Visited l l₁ p v N (InPlane B b k) → Visited l₁ l₂ p v N (InColumn B b k B) → Visited l l₂ p v N (InPlane B b (k + 1))
  plane_step b k some u w =
      visited_then p v N (InPlane B b (k + 1)) u w
      (λ n q d e. omega (arith, d.1, e.1))
      (λ n q d. (d.0, omega (arith, d.1)))
      (λ n q e. (e.0, omega (arith, e.1)))
      (λ n q f. ⊎_elim
      (λ (e : k_of B n ≡ k). inr (f.0, e, j_lt B n some))
      (λ (h : k_of B n < k). inl (f.0, h))
      (eq-or-lt_of_le {n = k_of B n} {m = k} (omega (arith, f.1))))

  -- one plane more
  pub all_step : {l l₁ l₂ : List Float} (b : ℕ) → 0 < B → Visited l l₁ p v N (InAll B b) → Visited l₁ l₂ p v N (InPlane B b B) → Visited l l₂ p v N (InAll B (b + 1))
  all_step b some u w =
      visited_then p v N (InAll B (b + 1)) u w
      (λ n q d e. omega (arith, d, e.0))
      (λ n q d. omega (arith, d))
      (λ n q e. omega (arith, e.0))
      (λ n q f. ⊎_elim
      (λ (e : b_of B n ≡ b). inr (e, k_lt B n some))
      (λ (h : b_of B n < b). inl h)
      (eq-or-lt_of_le {n = b_of B n} {m = b} (omega (arith, f))))

-- the value of slot (b, j, k), named by the slot's number
pub at_slot : (B b j k : ℕ) → j < B → k < B → (f : ℕ → Float) (n : ℕ) → n ≡ slot B b j k → f j ≡ f (j_of B n)
at_slot B b j k pj pk f n e = ap f (sym (ap (j_of B) e ∙ j_of_lem B pj pk b))

-- slot (b, j, k) comes after those of its column that are visited
pub after_column : (B b j k : ℕ) → j < B → k < B → (n : ℕ) → n ≡ slot B b j k → j_of B n < j → ⊥
after_column B b j k pj pk n e h = omega (arith, ap (j_of B) e ∙ j_of_lem B pj pk b)
