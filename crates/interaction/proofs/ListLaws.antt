-- An accepted list, triplet by triplet: what is worked after t of them, and that it is the definition's when all are.
use Prim.Native.Nat.{ℕ, zero, suc, ◌+◌, ◌-◌, ◌*◌, ◌<◌, ◌≤◌}
use native.Mathlib.Nat.{zero-mul, suc-mul}
use native.Mathlib.Numerals.{add-one}
use native.Mathlib.Omega.{arith}
use mathlib.Core.Path.{◌≡◌, refl, sym, ap, ap₂, ◌∙◌}
use mathlib.Core.Bool.{true}
use mathlib.Core.List.{List, [], ◌++◌, append_assoc}
use borrow.Author.Tests.{leb-true, eqb-true}
use lib.IntN.{ℤ}
use lib.Ieee.{Float}
use lib.ListN.{length, take, drop, replicate, length-append, length-drop, length-replicate}
use lib.Seq.{drop-drop, drop_at, take_at, take_all, length-take-le}
use borrow.Rule.Slice.PartMut.{put_mid, same_len_mid, mid_len, drop_put}
use Rattle.phonon.specs.declared.Measures.{Measures}
use Rattle.phonon.specs.Number.{f0, fold}
use Rattle.phonon.specs.Sets.{slots, part, ListSet, of_list}
use Rattle.phonon.specs.Limits.{work_length, sizes_of}
use Rattle.phonon.specs.Interaction.{strengths, list_strengths}
use Rattle.phonon.specs.Refusal.{measures_ok, buffer_lengths, count_tests, tests_of, triplet_refusal, list_refusal}
use Rattle.phonon.specs.Doors.{cleared}
use Rattle.phonon.proofs.Lowest.{none_both, passing}
use Rattle.phonon.proofs.Accepted.{holds, measured_in, table_facts}
use Rattle.phonon.proofs.Laws.{fold_step}
use Rattle.phonon.proofs.Shares.{part_fits, list_share}

-- ---- what is known of an accepted list

pub record AcceptedList (s : ListSet) : Type 0 where
  pub measures : measures_ok s.tables.measures ≡ true
  pub some : 1 ≤ s.list
  pub triplets : length s.triplets ≡ s.list * 3
  pub flags : length s.flags ≡ s.list * slots s.tables.measures
  pub strengths : length s.strengths ≡ s.list * slots s.tables.measures
  pub work : work_length s.tables.measures.atoms s.tables.measures.supercell ≤ length s.work

pub list_facts : (s : ListSet) → list_refusal s ≡ 0 → AcceptedList s
unfolding list_refusal buffer_lengths sizes_of
list_facts s e =
    let a = none_both (count_tests s.list s.triplets) _ e in
    let b = none_both (tests_of s.tables) _ a.1 in
    let c = passing (count_tests s.list s.triplets) refl a.0 in
    let d = passing _ refl b.1 in
    let h = holds _ d.0 in
    record {
      measures = (table_facts s.tables b.0).measures;
      some = (measured_in _ _ s.list c.0).0;
      triplets = omega (arith, eqb-true (length s.triplets) (3 * s.list) c.1.0);
      flags = eqb-true _ _ h.0;
      strengths = eqb-true _ _ h.1.0;
      work = leb-true _ _ h.1.1.0;
    }

-- ---- the work buffer after t triplets: as found, or cleared

abbrev pub cleared_after : ℕ → Measures → List Float → List Float
cleared_after zero m w = w
cleared_after (suc t) m w = cleared m w

cleared_twice : (m : Measures) (w : List Float) → cleared m (cleared m w) ≡ cleared m w
unfolding cleared
cleared_twice m w =
    let n : ℕ = work_length m.atoms m.supercell in
    ap (λ l. replicate n f0 ++ l) (drop_at (replicate n f0) (drop n w) n (length-replicate n f0))

cleared_next : (t : ℕ) (m : Measures) (w : List Float) → cleared m (cleared_after t m w) ≡ cleared m w
cleared_next zero m w = refl
cleared_next (suc t) m w = cleared_twice m w

cleared_length : (t : ℕ) (m : Measures) (w : List Float) → work_length m.atoms m.supercell ≤ length w → length (cleared_after t m w) ≡ length w
unfolding cleared
cleared_length zero m w h = refl
cleared_length (suc t) m w h = simp (length-append, length-replicate, length-drop) (omega arith)

cleared_some : (t : ℕ) (m : Measures) (w : List Float) → 1 ≤ t → cleared_after t m w ≡ cleared m w
cleared_some zero m w h = absurd (omega arith)
cleared_some (suc t) m w h = refl

-- ---- after t triplets the first t parts of the strengths are worked, and the rest is as found

pub record Worked (s : ListSet) (t : ℕ) (v w : List Float) : Type 0 where
  pub size : length v ≡ length s.strengths
  pub done : take (t * slots s.tables.measures) v ≡ fold t [] (λ u out. out ++ strengths (of_list s u) (part (slots s.tables.measures) u s.strengths))
  pub left : drop (t * slots s.tables.measures) v ≡ drop (t * slots s.tables.measures) s.strengths
  pub work : w ≡ cleared_after t s.tables.measures s.work

pub worked_none : (s : ListSet) → Worked s 0 s.strengths s.work
unfolding fold
worked_none s = let z : 0 * slots s.tables.measures ≡ 0 = zero-mul _ in record { size = refl; done = rw z refl; left = refl; work = refl }

module _ (s : ListSet) (e : list_refusal s ≡ 0) where
  abbrev m : Measures
  m = s.tables.measures

  facts : AcceptedList s
  facts = list_facts s e

  pub work_size : (t : ℕ) {v w : List Float} → Worked s t v w → length w ≡ length s.work
  work_size t k = ap length k.work ∙ cleared_length t m s.work facts.work

  pub worked_all : {v w : List Float} → Worked s s.list v w → (v ≡ list_strengths s) × (w ≡ cleared m s.work)
  unfolding list_strengths
  worked_all {v} k =
      (sym (take_all (s.list * slots m) v (omega (arith, k.size, facts.strengths))) ∙ k.done, k.work ∙ cleared_some s.list m s.work facts.some)

  pub points_fit : (t : ℕ) → t < s.list → t * 3 + 3 ≤ length s.triplets
  points_fit t h = omega (arith, part_fits 3 h, facts.triplets)

  -- triplet t, with n slots to a part
  module _ (n : ℕ) (en : n ≡ slots m) (t : ℕ) (h : t < s.list) where
    -- part t, from its start to its end
    abbrev cut : {A : Type 0} → List A → List A
    cut l = take (t * n + n - t * n) (drop (t * n) l)

    cut_part : {A : Type 0} (l : List A) → cut l ≡ part (slots m) t l
    cut_part l = let d : t * n + n - t * n ≡ n = omega arith in rw (d, en) refl

    -- a slice of the list has room for it
    fits : {A : Type 0} (l : List A) → length l ≡ s.list * slots m → t * n + n ≤ length l
    fits l el = omega (arith, part_fits n h, ap (λ j. s.list * j) en)

    pub flags_fit : t * n + n ≤ length s.flags
    flags_fit = fits s.flags facts.flags

    module _ {v w : List Float} (k : Worked s t v w) where
      pub strengths_fit : t * n + n ≤ length v
      strengths_fit = fits v (k.size ∙ facts.strengths)

      cut_size : length (cut v) ≡ slots m
      cut_size = mid_len (t * n) (t * n + n) v strengths_fit ∙ omega arith

      -- its set is accepted
      module _ {points : List ℤ} (ep : points ≡ part 3 t s.triplets) where
        pub share_accepted : triplet_refusal (record { tables = s.tables; triplet = points; flags = cut s.flags; strengths = cut v; work = w }) ≡ 0
        share_accepted =
            ap triplet_refusal (λ i. record { tables = s.tables; triplet = ep i; flags = cut_part s.flags i; strengths = cut v; work = w })
            ∙ list_share s e t h (cut v) w cut_size (work_size t k)

        same_strengths : strengths (record { tables = s.tables; points = points; flags = cut s.flags }) (cut v) ≡ strengths (of_list s t) (part (slots m) t s.strengths)
        same_strengths =
            let q = cut_part v ∙ ap (take (slots m)) k.left in λ i. strengths (record { tables = s.tables; points = ep i; flags = cut_part s.flags i }) (q i)

        -- worked, it is put back
        pub worked_next : {y x : List Float} → length y ≡ length (cut v)
            → y ≡ strengths (record { tables = s.tables; points = points; flags = cut s.flags }) (cut v) → x ≡ cleared m w
            → Worked s (t + 1) (put_mid (t * n) (t * n + n - t * n) v y) x
        worked_next {y} ly ey ex =
            let out = put_mid (t * n) (t * n + n - t * n) v y in
            let b : length y ≡ t * n + n - t * n = ly ∙ mid_len (t * n) (t * n + n) v strengths_fit in
            let q : (t + 1) * slots m ≡ t * n + n = ap (λ j. (t + 1) * j) (sym en) ∙ rw add-one (suc-mul t n) in
            let front : length (take (t * n) v ++ y) ≡ t * n + n = simp length-append (omega (arith, length-take-le (t * n) v (omega (arith, strengths_fit)))) in
            let before : take (t * n) v ≡ take (t * slots m) v = ap (λ j. take (t * j) v) en in
            let behind : drop (t * n) v ≡ drop (t * n) s.strengths = rw en k.left in
            record {
              size = same_len_mid (t * n) (t * n + n - t * n) v y ly ∙ k.size;
              done = ap (λ j. take j out) q ∙ ap (take (t * n + n)) (sym (append_assoc (take (t * n) v) y _)) ∙ take_at (take (t * n) v ++ y) _ (t * n + n) front
                  ∙ ap₂ ◌++◌ (before ∙ k.done) (ey ∙ same_strengths) ∙ sym (fold_step t [] _);
              left = ap (λ j. drop j out) q ∙ drop_put (t * n) (t * n + n) v y (omega arith) strengths_fit b ∙ sym (drop-drop n (t * n) v) ∙ ap (drop n) behind ∙ drop-drop n (t * n) s.strengths
                  ∙ ap (λ j. drop j s.strengths) (sym q);
              work = rw add-one (ex ∙ ap (cleared m) k.work ∙ cleared_next t m s.work);
            }
