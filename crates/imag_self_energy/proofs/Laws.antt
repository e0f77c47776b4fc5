-- Laws of bands, slots and sums: what the loops work out from the bands that they hold is the definition's total.
use Prim.Native.Nat.{ℕ, ◌+◌, ◌*◌, ◌<◌, ◌≤◌}
use native.Mathlib.Nat.{mul-le-mul_right, mul_assoc, one-mul, eq-or-lt_of_le}
use native.Mathlib.Omega.{arith}
use mathlib.Core.Path.{◌≡◌, refl, sym, ap, ◌∙◌}
use mathlib.Core.Bool.{Bool, true, false, not, ◌&&◌, cond, not-not}
use mathlib.Core.List.{List}
use mathlib.Core.Logic.{⊎_elim}
use lib.Dec.{eqb}
use lib.Ieee.{Float, nan, lt}
use lib.ListN.{get_or, length, set, length-set}
use Rattle.std.proofs.lemmas.List.{length-map, get_or-map}
use lib.Seq.{get_or-set_same, get_or-set_other, ext_get_or}
use Rattle.phonon.specs.declared.Band.{Band}
use Rattle.phonon.specs.declared.Weights.{Weights}
use Rattle.phonon.specs.declared.Weights.TheVariants.{PerSlot, AtFrequencyPoint}
use Rattle.phonon.specs.Number.{◌⊕◌, f0, float, index, at, int, fold, table}
use Rattle.phonon.specs.Funcs.{bose_einstein}
use Rattle.phonon.specs.Sets.{slot, part}
use Rattle.phonon.specs.Limits.{entries_of}
use Rattle.phonon.specs.ImagSelfEnergy.{Sum, block, place_of, second1, third2, counted, contribution, slot_term, total, totals}
use Rattle.phonon.proofs.Laws.{fold_ext, fold_step, table_ext, table_at, table_length, part_at}
use Rattle.funcs.specs.Occupation.{mark, marked}
use Rattle.imag_self_energy.specs.declared.Shared.{Shared}
use Rattle.imag_self_energy.specs.Bands.{band_at, band_of, leg_bands, add_slot, slot_step, column_sum, band_total, Sized}

-- ---- blocks

-- block c of the flags g and the weights x and y, and block b of the strengths v, of area entries each, lie within the slices
pub record Within (area c b : ℕ) (g : List ℕ) (x y v : List Float) : Type 0 where
  pub flags : (c + 1) * area ≤ length g
  pub first : (c + 1) * area ≤ length x
  pub second : (c + 1) * area ≤ length y
  pub strengths : (b + 1) * area ≤ length v

-- block w b lies within the entries
block_in : (w : Weights) (n F b : ℕ) → b < F → (block w b + 1) * n * n ≤ entries_of w F n
unfolding block entries_of
block_in PerSlot n F b p = mul-le-mul_right n (mul-le-mul_right n (omega arith))
block_in AtFrequencyPoint n F b p = omega (arith, one-mul n)

pub sized_within : {w : Weights} {n F b : ℕ} {g : List ℕ} {x y v : List Float} (c : ℕ) → c ≡ block w b → b < F → Sized w n F g x y v → Within (n * n) c b g x y v
sized_within {w} {n} {F} {b} c e p h =
    let i : (block w b + 1) * (n * n) ≤ entries_of w F n = omega (arith, mul_assoc (block w b + 1) n n, block_in w n F b p) in
    let k : (b + 1) * n * n ≤ F * n * n = mul-le-mul_right n (mul-le-mul_right n (omega arith)) in
    record {
      flags = rw (e, h.flags) i;
      first = rw (e, h.first) i;
      second = rw (e, h.second) i;
      strengths = rw h.strengths (omega (arith, k, mul_assoc (b + 1) n n));
    }

-- ---- loops that fill a list

-- the first n entries of a list are f 0, .., f (n - 1)
pub record Filled {A : Type 0} (l : List A) (n : ℕ) (f : ℕ → A) : Type 0 where
  pub filled : (i : ℕ) → i < n → (d : A) → get_or l i d ≡ f i

pub filled_none : {A : Type 0} (l : List A) (f : ℕ → A) → Filled l 0 f
filled_none l f = record { filled = λ i h d. absurd (omega arith) }

pub filled_step : {A : Type 0} {l : List A} {n : ℕ} {f : ℕ → A} (x : A) → Filled l n f → n < length l → x ≡ f n → Filled (set l n x) (n + 1) f
filled_step {A} {l} {n} {f} x w h e =
    record {
      filled = λ i p d. ⊎_elim
          (λ (q : i ≡ n). rw q (get_or-set_same l n x d h ∙ e))
          (λ (q : i < n). get_or-set_other l n i x d (λ (z : i ≡ n). omega arith) ∙ w.filled i q d)
          (eq-or-lt_of_le {n = i} {m = n} (omega arith));
    }

pub filled_less : {A : Type 0} {l : List A} {n : ℕ} {f : ℕ → A} (m : ℕ) → m ≤ n → Filled l n f → Filled l m f
filled_less m h w = record { filled = λ i p d. w.filled i (omega arith) d }

-- two turns, or the same one twice
pub filled_two : {l : List Float} {b e : ℕ} {f : ℕ → Float} (x y : Float) → Filled l b f → b < length l → e < length l → x ≡ f b → y ≡ f e → b ≤ e → e ≤ b + 1
    → Filled (set (set l b x) e y) (e + 1) f
filled_two {l} {b} {e} {f} x y w h p u v o q =
    let s = length-set l b x in
    filled_step y (filled_less e q (filled_step x w h u)) (omega arith) v

-- a list that is filled whole is the table
pub filled_table : {l : List Float} {n : ℕ} {f : ℕ → Float} → length l ≡ n → Filled l n f → l ≡ table n f
filled_table {l} {n} {f} e w =
    ext_get_or nan l (table n f) (e ∙ sym (table_length n f)) (λ i h. let p : i < n = omega arith in w.filled i p nan ∙ sym (table_at n i f nan p))

-- ---- the bands of a leg

-- the first n of an array are the first n bands of a leg
abbrev Held : Shared → List Float → ℕ → List Band → Type 0
Held h leg n bands = Filled bands n (λ i. band_of h (at leg i))

pub above : (t c f : Float) {n : Float} → lt c f ≡ true → n ≡ bose_einstein f t → n ≡ marked t c f
unfolding marked
above t c f p e = e ∙ rw p refl

pub below : (t c f : Float) → lt c f ≡ false → mark ≡ marked t c f
unfolding marked
below t c f p = rw p refl

band_made : (h : Shared) (f n : Float) → n ≡ marked h.temperature h.cutoff f → record { frequency = f; occupation = n } ≡ band_of h f
unfolding band_of
band_made h f n e = rw e refl

leg_held : (h : Shared) {n : ℕ} (leg : List Float) → length leg ≡ n → Held h leg n (leg_bands h leg)
unfolding leg_bands
leg_held h leg e = record { filled = λ i p d. get_or-map (band_of h) leg i nan d (omega arith) }

-- band i of a leg that is grid point g's stretch of the slice
leg_band : (h : Shared) {n i : ℕ} {leg : List Float} (g : ℕ) (fr : List Float) → leg ≡ part n g fr → length leg ≡ n → i < n
    → band_at (leg_bands h leg) i ≡ band_of h (at fr (g * n + i))
leg_band h {n} {i} {leg} g fr e l p =
    let a : at leg i ≡ at fr (g * n + i) = rw e (part_at fr (g * n) n i nan p) in
    (leg_held h leg l).filled i p _ ∙ ap (band_of h) a

-- the first n bands of both later legs are held, in arrays of m
pub record BothHeld (h : Shared) (leg1 leg2 : List Float) (m n : ℕ) (seconds thirds : List Band) : Type 0 where
  pub room2 : length seconds ≡ m
  pub room3 : length thirds ≡ m
  pub second : Held h leg1 n seconds
  pub third : Held h leg2 n thirds

pub both_step : {h : Shared} {leg1 leg2 : List Float} {m n : ℕ} {seconds thirds : List Band} {x y : Float} → BothHeld h leg1 leg2 m n seconds thirds → n < m
    → x ≡ marked h.temperature h.cutoff (at leg1 n) → y ≡ marked h.temperature h.cutoff (at leg2 n)
    → BothHeld h leg1 leg2 m (n + 1) (set seconds n (record { frequency = at leg1 n; occupation = x })) (set thirds n (record { frequency = at leg2 n; occupation = y }))
both_step {h} w l e f =
    let p = w.room2 in
    let q = w.room3 in
    record {
      room2 = simp length-set p;
      room3 = simp length-set q;
      second = filled_step _ w.second (omega arith) (band_made h _ _ e);
      third = filled_step _ w.third (omega arith) (band_made h _ _ f);
    }

-- a leg's bands, all held
held_whole : (h : Shared) (leg : List Float) {bands : List Band} → length bands ≡ length leg → Held h leg (length leg) bands → bands ≡ leg_bands h leg
unfolding leg_bands
held_whole h leg {bands} e w =
    ext_get_or (record { frequency = nan; occupation = nan }) bands (leg_bands h leg) (simp length-map e)
    (λ i p. let q : i < length leg = omega arith in w.filled i q _ ∙ sym ((leg_held h leg refl).filled i q _))

pub both_whole : {h : Shared} {leg1 leg2 : List Float} {seconds thirds : List Band} → length leg2 ≡ length leg1 → BothHeld h leg1 leg2 (length leg1) (length leg1) seconds thirds
    → (seconds ≡ leg_bands h leg1) × (thirds ≡ leg_bands h leg2)
both_whole {h} {leg1} {leg2} e w = (held_whole h leg1 w.room2 w.second, held_whole h leg2 (w.room3 ∙ sym e) (rw e w.third))

-- ---- loops that sum

-- a turn of a counting loop, which makes r of x
pub turn : {A : Type 0} (step : ℕ → A → A) (z : A) {r x : A} (n : ℕ) → r ≡ step n x → x ≡ fold n z step → r ≡ fold (n + 1) z step
turn step z n er ex = er ∙ ap (step n) ex ∙ sym (fold_step n z step)

-- the last turn was number n
pub at_end : {A : Type 0} (step : ℕ → A → A) (z : A) {r : A} (i n : ℕ) → i ≡ n → r ≡ fold i z step → r ≡ fold n z step
at_end step z i n e h = h ∙ ap (λ (m : ℕ). fold m z step) e

-- ---- one slot

-- what all slots share, of a sum's definition
abbrev shared : Sum → Float → Shared
shared s t = record { temperature = t; cutoff = s.cutoff; weight = float s.weight }

-- of the bands of frequencies f and h: where the slot counts, their occupations are worked out
slot_is : (s : Sum) (t : Float) (g : ℕ) (f h x y v u : Float)
    → add_slot (shared s t) g (band_of (shared s t) f) (band_of (shared s t) h) x y v u
    ≡ cond (not (not (eqb g 0)) && lt s.cutoff f && lt s.cutoff h)
    (u ⊕ contribution t (float s.weight) (bose_einstein f t) (bose_einstein h t) x y v) u
unfolding add_slot band_of marked
slot_is s t g f h x y v u = rw not-not (by (eqb g 0) (lt s.cutoff f) (lt s.cutoff h))
  where
    by : (a p q : Bool)
        → cond (a && p && q) (u ⊕ contribution t (float s.weight) (cond p (bose_einstein f t) mark) (cond q (bose_einstein h t) mark) x y v) u
        ≡ cond (a && p && q) (u ⊕ contribution t (float s.weight) (bose_einstein f t) (bose_einstein h t) x y v) u
    by false p q = refl
    by true false q = refl
    by true true false = refl
    by true true true = refl

-- ---- the total

-- the bands of the definition's frequencies make its totals
total_is : (s : Sum) (t : Float) (v : List Float) (seconds thirds : List Band)
    → ((j : ℕ) → j < s.bands → band_at seconds j ≡ band_of (shared s t) (second1 s j))
    → ((k : ℕ) → k < s.bands → band_at thirds k ≡ band_of (shared s t) (third2 s k))
    → (b : ℕ) → band_total (shared s t) s.bands (block s.weights b) b seconds thirds s.flags s.first s.second v ≡ total s t v b
unfolding band_total column_sum slot_step total counted slot_term
total_is s t v seconds thirds p q b =
    fold_ext s.bands f0 _ _
    (λ k pk u. fold_ext s.bands u _ _
    (λ j pj a. rw (p j pj, q k pk)
    (slot_is s t (get_or s.flags (place_of s b j k) 0) (second1 s j) (third2 s k) (at s.first (place_of s b j k)) (at s.second (place_of s b j k)) (at v (slot s.bands b j k)) a)))

-- the legs are stretches of these frequencies, and the weight is cast
pub totals_are : (s : Sum) (t : Float) (v leg1 leg2 : List Float)
    → leg1 ≡ part s.bands (index (int s.points 1)) s.frequencies → length leg1 ≡ s.bands
    → leg2 ≡ part s.bands (index (int s.points 2)) s.frequencies → length leg2 ≡ s.bands
    → (F : ℕ) (w : Float) → w ≡ float s.weight
    → table F (λ b. band_total (record { temperature = t; cutoff = s.cutoff; weight = w }) s.bands (block s.weights b) b
    (leg_bands (record { temperature = t; cutoff = s.cutoff; weight = w }) leg1) (leg_bands (record { temperature = t; cutoff = s.cutoff; weight = w }) leg2) s.flags s.first s.second v)
    ≡ totals F s t v
unfolding totals
totals_are s t v leg1 leg2 e1 l1 e2 l2 F w e =
    rw e (table_ext F _ _ (λ b l. total_is s t v _ _ (λ j p. leg_band (shared s t) _ _ e1 l1 p) (λ k p. leg_band (shared s t) _ _ e2 l2 p) b))
