-- What lies in a slice outside of the indices that a stage writes, and what a region that is written holds, as the definitions' lists.
use mathlib.Core.Path.{◌≡◌, sym, ap, ◌∙◌}
use mathlib.Core.List.{List}
use Prim.Native.Nat.{ℕ, ◌+◌, ◌-◌, ◌*◌, ◌<◌, ◌≤◌}
use native.Mathlib.Nat.{mul-le-mul_right}
use native.Mathlib.Omega.{arith}
use lib.ListN.{length, take, drop, length-drop}
use lib.Seq.{ext_get_or, get_or-drop}
use lib.Ieee.{Float, nan}
use Rattle.phonon.specs.declared.Complex.{Complex}
use Rattle.phonon.specs.Number.{table}
use Rattle.phonon.specs.Common.{ctable}
use Rattle.phonon.proofs.Laws.{table_at, table_length, ctable_ext, part_at, part_size}
use Rattle.planes.specs.Split.{WroteSplit}
use Rattle.planes.specs.Region.{Wrote, SameOutside}
use Rattle.planes.specs.Layout.{numbers_in, column_in}
use Rattle.planes.proofs.RegionLaws.{split_outside}

-- ---- below the indices that are written

pub column_below : {l l' : List Float} {a b : ℕ} → SameOutside l l' a b → (eo B n : ℕ) → eo + 2 * (B * B) ≤ a → n < B → column_in l' eo B n ≡ column_in l eo B n
unfolding column_in
column_below w eo B n h p =
    ctable_ext B _ _ (λ m q. split_outside w eo (B * B) (m * B + n) (omega (arith, mul-le-mul_right B q)))

pub numbers_below : {l l' : List Float} {a b : ℕ} → SameOutside l l' a b → (off d n : ℕ) → off + d + n ≤ a → numbers_in l' off d n ≡ numbers_in l off d n
unfolding numbers_in
numbers_below w off d n h = ctable_ext n _ _ (λ k q. split_outside w off d k (omega arith))

pub reals_below : {l l' : List Float} {a b : ℕ} → SameOutside l l' a b → (off n : ℕ) → off + n ≤ a → off + n ≤ length l → take n (drop off l') ≡ take n (drop off l)
reals_below {l} {l'} w off n h room =
    let s = part_size l off n room in
    let s' = part_size l' off n (omega (arith, w.size)) in
    ext_get_or nan (take n (drop off l')) (take n (drop off l)) (s' ∙ sym s) (λ k p.
    let q : k < n = omega arith in
    part_at l' off n k nan q ∙ w.before (off + k) (omega arith) ∙ sym (part_at l off n k nan q))

-- ---- what was written

pub numbers_wrote : {l l' : List Float} {off d n : ℕ} {f : ℕ → Complex} → WroteSplit l l' off d n f → numbers_in l' off d n ≡ ctable n f
unfolding numbers_in
numbers_wrote {n = n} w = ctable_ext n _ _ (λ k p. w.inside k p)

pub reals_wrote : {l l' : List Float} {off n : ℕ} {f : ℕ → Float} → Wrote l l' off n f → off + n ≤ length l → take n (drop off l') ≡ table n f
reals_wrote {l} {l'} {off} {n} {f} w room =
    let s = part_size l' off n (omega (arith, w.size)) in
    ext_get_or nan (take n (drop off l')) (table n f) (s ∙ sym (table_length n f)) (λ k p.
    let q : k < n = omega arith in
    part_at l' off n k nan q ∙ w.inside k q ∙ sym (table_at n k f nan q))

pub outside_wrote : {l l' : List Float} {off n : ℕ} {f : ℕ → Float} (a b : ℕ) → a ≤ off → off + n ≤ b → Wrote l l' off n f → SameOutside l l' a b
outside_wrote a b p q w = record { size = w.size; before = λ j h. w.before j (omega arith); after = λ j h. w.after j (omega arith) }

-- ---- behind the indices that are written

pub drop_outside : {l l' : List Float} {a b : ℕ} → SameOutside l l' a b → (n : ℕ) → b ≤ n → drop n l' ≡ drop n l
drop_outside {l} {l'} w n h =
    ext_get_or nan (drop n l') (drop n l) (length-drop n l' ∙ ap (λ (x : ℕ). x - n) w.size ∙ sym (length-drop n l)) (λ k p.
    get_or-drop n l' k nan ∙ w.after (n + k) (omega arith) ∙ sym (get_or-drop n l k nan))
