-- A list that is written from its start: one entry more, a part more, and the whole table.
use Prim.Native.Nat.{ℕ, zero, suc, ◌+◌, ◌-◌, ◌≤◌, ◌<◌}
use mathlib.Core.Path.{◌≡◌, refl, sym, ap, ap₂, ◌∙◌}
use mathlib.Core.List.{List, [], ◌∷◌, ◌++◌, append_assoc, append-nil}
use native.Mathlib.Numerals.{add-one}
use native.Mathlib.Omega.{arith}
use lib.ListN.{length, take, set, length-set, length-append}
use lib.Seq.{take-suc-set, take_all, take_at, length-take-le}
use borrow.Rule.Slice.PartMut.{put_mid, same_len_mid, mid_len}
use Rattle.phonon.specs.Number.{table, table_from}
use Rattle.phonon.proofs.Laws.{table_snoc, table_length}

-- after i turns a list of n entries holds the first i of a table
pub record Filled {A : Type 0} (f : ℕ → A) (n : ℕ) (l : List A) (i : ℕ) : Type 0 where
  pub most : i ≤ n
  pub long : length l ≡ n
  pub written : take i l ≡ table i f

-- a table in two parts
table_join : {A : Type 0} (i m : ℕ) (f : ℕ → A) → table i f ++ table m (λ k. f (i + k)) ≡ table (i + m) f
unfolding table table_from
table_join i zero f = let e : i ≡ i + 0 = omega arith in append-nil (table i f) ∙ ap (λ (x : ℕ). table x f) e
table_join i (suc m) f =
    let e : suc (i + m) ≡ i + suc m = omega arith in
    ap (λ l. table i f ++ l) (rw (add-one m) at (table_snoc m (λ k. f (i + k))))
    ∙ sym (append_assoc (table i f) (table m (λ k. f (i + k))) (f (i + m) ∷ []))
    ∙ ap (λ l. l ++ (f (i + m) ∷ [])) (table_join i m f)
    ∙ sym (rw (add-one (i + m)) at (table_snoc (i + m) f))
    ∙ ap (λ (x : ℕ). table x f) e

module _ {A : Type 0} {f : ℕ → A} {n : ℕ} {l : List A} where
  pub filled_none : length l ≡ n → Filled f n l 0
  unfolding table table_from
  filled_none e = record { most = omega arith; long = e; written = refl }

  -- one entry more
  pub filled_more : {i : ℕ} {x : A} → i < n → x ≡ f i → Filled f n l i → Filled f n (set l i x) (i + 1)
  filled_more {i} {x} h v d =
      let k : i < length l = omega arith in
      record {
        most = omega arith;
        long = simp length-set d.long;
        written = rw table_snoc (rw (add-one, take-suc-set l i x k, d.written, v) refl);
      }

  -- a part more: the m entries from i on, which were lent and have come back as y
  pub filled_part : {i : ℕ} (m : ℕ) {y : List A} → i + m ≤ n → y ≡ table m (λ k. f (i + k)) → Filled f n l i → Filled f n (put_mid i (i + m - i) l y) (i + m)
  filled_part {i} m {y} h v d =
      let room : i + m ≤ length l = omega (arith, d.long) in
      let size : length y ≡ m = ap length v ∙ table_length m (λ k. f (i + k)) in
      let cut : i + m - i ≡ m = omega arith in
      let front : length (take i l ++ y) ≡ i + m = simp length-append (omega (arith, size, length-take-le i l (omega (arith, room)))) in
      record {
        most = h;
        long = same_len_mid i (i + m - i) l y (size ∙ sym (mid_len i (i + m) l room ∙ cut)) ∙ d.long;
        written = ap (take (i + m)) (sym (append_assoc (take i l) y _)) ∙ take_at (take i l ++ y) _ (i + m) front ∙ ap₂ ◌++◌ d.written v ∙ table_join i m f;
      }

  -- the whole table
  pub filled_whole : {i : ℕ} → n ≤ i → Filled f n l i → l ≡ table n f
  filled_whole {i} h d =
      let same : i ≡ n = omega arith in
      sym (take_all n l (omega arith)) ∙ rw same at d.written
