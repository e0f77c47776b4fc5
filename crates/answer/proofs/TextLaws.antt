-- The text of a set by the door's answer, and the text of a file by its tests.
use Prim.Native.Nat.{ℕ, zero, suc, ◌%◌, ◌≤◌, ◌<◌}
use mathlib.Core.Bool.{true, false, ◌&&◌, and-false}
use mathlib.Core.Path.{◌≡◌, refl, sym, ◌∙◌, ap}
use mathlib.Core.List.{List, [], ◌++◌}
use native.Mathlib.Omega.{arith}
use lib.Ieee.{Float}
use lib.IntN.{ℤ}
use borrow.Author.Tests.{lt-leb}
use lib.Dec.{leb, eqb}
use lib.ListN.{length, take}
use lib.Seq.{length-take-le}
use Rattle.std.specs.Prelude.{Result, Ok, Err}
use Rattle.phonon.specs.declared.Refusal.{Refusal}
use Rattle.phonon.specs.Answers.{number}
use Rattle.phonon.proofs.Answers.{number_positive}
use Rattle.phonon.specs.Sets.{JoinedSet, bands_of, slots}
use Rattle.phonon.specs.Doors.{JoinedOutcome, joined_outcome}
use Rattle.carton.specs.declared.heading.Heading.{Heading}
use Rattle.carton.specs.Blocks.{size_ok, blocks_ok}
use Rattle.carton.specs.Most.{most_work}
use Rattle.carton.specs.Words.{words_of, floats_of, ints_of, bytes_of}
use Rattle.carton.specs.Heading.{slice, read_of}
use Rattle.carton.specs.Tables.{Columns, columns_of, set_in}
use Rattle.carton.proofs.FileLaws.{file_10, file_11, file_12, file_read}
use Rattle.carton.proofs.HeadingLaws.{read_good, read_wrong}
use Rattle.text.specs.Lines.{refused_line, accepted_text, answered_text, set_text}
use Rattle.answer.specs.Text.{zeros, start_of, file_text, answer_text}

-- what is put behind nothing
pub alone : (t u a : List ℕ) → u ≡ t ++ a → t ≡ [] → u ≡ a
alone t u a e z = rw z at e

-- ---- the set

refused_as : (n : ℕ) (s : JoinedSet) (o : JoinedOutcome) → 0 < n → refused_line n ≡ answered_text n s o
unfolding answered_text
refused_as zero s o h = absurd (omega arith)
refused_as (suc n) s o h = refl

module _ (w : Columns) (h : Heading) (v u k : List Float) (ev : v ≡ zeros (slots h.measures)) (eu : u ≡ zeros h.measures.first) (ek : k ≡ zeros most_work)
    (o : JoinedOutcome) (e : o ≡ joined_outcome (set_in w h v u k)) where
  starts : set_in w h v u k ≡ start_of w h
  unfolding start_of
  starts = rw (ev, eu, ek) refl

  text_is : answered_text o.answer (set_in w h v u k) o ≡ set_text (start_of w h)
  unfolding set_text
  text_is = ap (λ (x : JoinedOutcome). answered_text x.answer (set_in w h v u k) x) e ∙ ap (λ (s : JoinedSet). answered_text (joined_outcome s).answer s (joined_outcome s)) starts

  pub text_accepted : o.answer ≡ 0
      → accepted_text h.measures.first (bands_of h.measures) (slice h.places.flags h.places.constants w.bytes) o.strengths o.totals ≡ set_text (start_of w h)
  unfolding answered_text set_in
  text_accepted a = rw a at text_is

  pub text_refused : (r : Refusal) → o.answer ≡ number r → refused_line (number r) ≡ set_text (start_of w h)
  text_refused r a =
      refused_as (number r) (set_in w h v u k) o (number_positive r)
      ∙ ap (λ (n : ℕ). answered_text n (set_in w h v u k) o) (sym a)
      ∙ text_is

pub columns_same : (h : Heading) (ws : List ℕ) (f : List Float) (i : List ℤ) (b : List ℕ) → f ≡ floats_of ws → i ≡ ints_of ws → b ≡ bytes_of ws
    → set_text (start_of (record { floats = f; ints = i; bytes = b }) h) ≡ set_text (start_of (columns_of ws) h)
columns_same h ws f i b ef ei eb = rw (ef, ei, eb) refl

-- ---- the file

module _ (s : List ℕ) where
  pub answer_10 : size_ok s ≡ false → refused_line 10 ≡ answer_text s
  unfolding answer_text file_text
  answer_10 a = rw (file_10 s a) refl

  module _ (a : size_ok s ≡ true) where
    pub answer_11 : blocks_ok s ≡ false → refused_line 11 ≡ answer_text s
    unfolding answer_text file_text
    answer_11 b = rw (file_11 s a b) refl

    module _ (b : blocks_ok s ≡ true) (ws : List ℕ) (r : Result Heading Refusal) (e : ws ≡ words_of s) (q : r ≡ read_of ws) where
      told : r ≡ read_of (words_of s)
      told = rw e at q

      pub answer_12 : (x : Refusal) → r ≡ Err x → refused_line 12 ≡ answer_text s
      unfolding answer_text file_text
      answer_12 x g = rw (file_12 s a b (read_wrong (words_of s) x (sym g ∙ told)).1) refl

      pub answer_read : (h : Heading) → r ≡ Ok h → set_text (start_of (columns_of ws) h) ≡ answer_text s
      unfolding answer_text file_text
      answer_read h g =
          let t = read_good (words_of s) h (sym g ∙ told) in
          rw (file_read s a b t.0, e, t.1) refl

-- 96 blocks have 49,152 bytes
too_long : (s : List ℕ) → 49153 ≤ length s → size_ok s ≡ false
unfolding size_ok
too_long s h = rw (lt-leb (length s) 49152 h) (and-false (leb 1 (length s) && eqb (length s % 512) 0))

-- what `key` reads of a longer file is answered as the whole would be
pub long_file : (s : List ℕ) → 49153 ≤ length s → answer_text (take 49153 s) ≡ answer_text s
long_file s h = sym (answer_10 (take 49153 s) (too_long (take 49153 s) (omega (arith, length-take-le 49153 s h)))) ∙ answer_10 s (too_long s h)
