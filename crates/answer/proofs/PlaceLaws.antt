-- Tables as slices of the words, and prefixes of arrays.
use Prim.Native.Nat.{ℕ, ◌-◌, ◌≤◌, ◌<◌}
use mathlib.Core.Path.{◌≡◌, sym, ◌∙◌, ap}
use mathlib.Core.List.{List, ◌++◌}
use native.Mathlib.Omega.{arith}
use lib.Ieee.{Float}
use lib.ListN.{length, take, length-replicate}
use lib.Seq.{take_at}
use Rattle.std.proofs.lemmas.List.{ext_get_or, get_or-replicate, take-replicate}
use Rattle.std.specs.Array.{AllOfLen}
use Rattle.phonon.specs.Number.{f0, table}
use Rattle.phonon.proofs.Laws.{table_length}
use Rattle.phonon.specs.Sets.{slots}
use Rattle.carton.specs.declared.heading.Heading.{Heading}
use Rattle.carton.specs.Fitted.{Fitted}
use Rattle.carton.specs.Most.{most_words}
use Rattle.carton.specs.Heading.{slice}
use borrow.Rule.Slice.PartMut.{mid_len}
use Rattle.answer.specs.Text.{zeros}

pub fitted_same : (h : Heading) (n m : ℕ) → m ≡ n → Fitted h n → Fitted h m
fitted_same h n m e f = rw e f

-- nothing cites this now; docs/PORT.md names it
pub flags_long : (h : Heading) (n : ℕ) (l : List ℕ) → Fitted h n → length l ≡ n → slots h.measures ≤ length (slice h.places.flags h.places.constants l)
flags_long h n l f e =
    let t = f.tables.flags in
    omega (arith, mid_len h.places.flags h.places.constants l (omega (arith, t.inside)), f.flags, t.order)

-- ---- a prefix that was lent and has come back as a table

module _ {A : Type 0} (n : ℕ) (f : ℕ → A) (x rest : List A) (e : x ≡ table n f) where
  pub lent_back : take n (x ++ rest) ≡ table n f
  lent_back = take_at x rest n (ap length e ∙ table_length n f) ∙ e

  pub lent_length : length (take n (x ++ rest)) ≡ n
  lent_length = ap length lent_back ∙ table_length n f

-- ---- arrays of zeros, and prefixes of them

pub repeated : (n : ℕ) (l : List Float) → AllOfLen (λ y. y ≡ f0) l n → l ≡ zeros n
repeated n l a =
    ext_get_or f0 l (zeros n) (a.long ∙ sym (length-replicate n f0))
    (λ k h.
    let b : k < n = omega (arith, a.long) in
    a.at k f0 b ∙ sym (get_or-replicate n k f0 f0 b))

pub zeros_length : (n : ℕ) (l : List Float) → l ≡ zeros n → length l ≡ n
zeros_length n l e = ap (λ (x : List Float). length x) e ∙ length-replicate n _

pub zeros_before : (n m k : ℕ) (l : List Float) → l ≡ zeros m → n ≡ k → k ≤ m → take n l ≡ zeros k
zeros_before n m k l e q h = ap (λ (x : List Float). take n x) e ∙ rw q (take-replicate k m f0 h)

pub slot_count : (h : Heading) (n : ℕ) → Fitted h n → h.places.end - h.places.second ≡ slots h.measures
slot_count h n f = let q = f.second in omega arith

pub few_slots : (h : Heading) (n : ℕ) → Fitted h n → h.places.end - h.places.second ≤ most_words
few_slots h n f = omega (arith, f.tables.second.inside, f.few)
