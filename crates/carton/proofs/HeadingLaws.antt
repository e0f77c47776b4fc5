-- What the code's tests of a heading tell of the definition's.
use Prim.Native.Nat.{ℕ, ◌+◌, ◌-◌, ◌/◌, ◌%◌, ◌≤◌}
use mathlib.Core.Bool.{Bool, true, false, cond, ◌&&◌, and-false}
use mathlib.Core.List.{List}
use mathlib.Core.Path.{◌≡◌, refl, sym, ◌∙◌, ap}
use native.Mathlib.Omega.{arith}
use lib.Dec.{leb, ltb, eqb}
use borrow.Author.Tests.{leb-true, eqb-true}
use lib.ListN.{length, take, drop, length-drop}
use lib.Seq.{take_all}
use Rattle.checks.proofs.Laws.{and_left, and_right}
use Rattle.phonon.specs.declared.Measures.{Measures}
use Rattle.phonon.specs.declared.Anchoring.{Anchoring}
use Rattle.phonon.specs.declared.Anchoring.TheVariants.{Plain, Averaged}
use Rattle.phonon.specs.declared.Symmetry.TheVariants.{Off, Symmetrized}
use Rattle.phonon.specs.declared.Form.TheVariants.{Compact, Full}
use Rattle.phonon.specs.declared.Symmetry.{Symmetry}
use Rattle.phonon.specs.declared.Form.{Form}
use Rattle.phonon.specs.Sets.{slots}
use Rattle.phonon.specs.Limits.{sizes_of, work_length}
use Rattle.carton.specs.Most.{most_words, most_work}
use Rattle.carton.specs.declared.heading.Places.{Places}
use Rattle.carton.specs.declared.heading.Heading.{Heading}
use Rattle.phonon.specs.declared.Refusal.{Refusal}
use Rattle.phonon.specs.declared.Refusal.TheVariants as Cause
use Rattle.std.specs.Prelude.{Ok, Err}
use Rattle.carton.specs.Heading.{edition, measures_in, flag_bits, form_of, anchoring_of, symmetry_of, places_with, places_of, heading_in, measures_natural, filled, words_match, heading_ok, read_as, read_of}
use Rattle.carton.specs.Small.{small_ok}
use Rattle.carton.specs.Fitted.{Fitted}
use Rattle.carton.proofs.MeasureLaws.{placed, measures_before, not_small, naturals}

-- the rest of a list, as the code lends it
pub rest : (l : List ℕ) (n : ℕ) → take (length l - n) (drop n l) ≡ drop n l
rest l n = take_all (length l - n) (drop n l) (omega (arith, length-drop n l))

-- ---- the flag bits

pub compact_bit : (b : ℕ) → cond (eqb (b / 1 % 2) 1) Compact Full ≡ form_of b
unfolding form_of
compact_bit b =
    let e : b / 1 ≡ b = omega arith in
    rw e refl

pub averaged_bit : (b : ℕ) → cond (eqb (b / 2 % 2) 1) Averaged Plain ≡ anchoring_of b
unfolding anchoring_of
averaged_bit b = refl

pub symmetrized_bit : (b : ℕ) → cond (eqb (b / 4 % 2) 1) Symmetrized Off ≡ symmetry_of b
unfolding symmetry_of
symmetrized_bit b = refl

-- ---- the tests a and b, s of small measures, n of natural ones, t of the words

wrong : (a b s n t : Bool) → ((a && b) && s) ≡ false → (s ≡ false → t ≡ false) → (a && (b && (n && t))) ≡ false
wrong true true true n t e f = absurd (let y : ◌≡◌ {A = ℕ} 0 1 = cc in omega arith)
wrong true true false n t e f = rw (f refl) (and-false n)
wrong true false s n t e f = refl
wrong false b s n t e f = refl

right : (a b s n t : Bool) → ((a && b) && s) ≡ true → (s ≡ true → n ≡ true) → (a && (b && (n && t))) ≡ t
right true true true n t e f = rw (f refl) refl
right true true false n t e f = absurd (let y : ◌≡◌ {A = ℕ} 0 1 = cc in omega arith)
right true false s n t e f = absurd (let y : ◌≡◌ {A = ℕ} 0 1 = cc in omega arith)
right false b s n t e f = absurd (let y : ◌≡◌ {A = ℕ} 0 1 = cc in omega arith)

module _ (ws : List ℕ) (s : Bool) (e : s ≡ small_ok (measures_in ws)) where
  -- the tests before the places
  abbrev Tests : Bool
  Tests = (eqb (edition ws) 1 && ltb (flag_bits ws) 8) && s

  abbrev Match : Bool
  Match = words_match ws (measures_in ws) (places_of (measures_in ws) (form_of (flag_bits ws)))

  pub tests_wrong : length ws ≤ most_words → Tests ≡ false → Err Cause.Heading ≡ read_of ws
  unfolding read_of heading_ok
  tests_wrong h t =
      rw
      (wrong (eqb (edition ws) 1) (ltb (flag_bits ws) 8) s (measures_natural (measures_in ws)) Match t
      (λ z. not_small ws (measures_in ws) (form_of (flag_bits ws)) h (sym e ∙ z)))
      refl

  pub tests_small : Tests ≡ true → small_ok (measures_in ws) ≡ true
  tests_small t = sym e ∙ and_right (eqb (edition ws) 1 && ltb (flag_bits ws) 8) s t

  tests_right : Tests ≡ true → read_of ws ≡ read_as Match (heading_in ws)
  unfolding read_of heading_ok
  tests_right t =
      rw
      (right (eqb (edition ws) 1) (ltb (flag_bits ws) 8) s (measures_natural (measures_in ws)) Match t
      (λ z. naturals (measures_in ws) (sym e ∙ z)))
      refl

  -- what the code worked out stage by stage
  module _ (t : Tests ≡ true) (form : Form) (p : Places) (match : Bool)
      (f : form ≡ form_of (flag_bits ws)) (q : p ≡ places_of (measures_in ws) form) (w : match ≡ words_match ws (measures_in ws) p) where
    match_is : match ≡ Match
    match_is = w ∙ rw (q, f) refl

    read_is : read_of ws ≡ read_as match (heading_in ws)
    read_is = tests_right t ∙ ap (λ (b : Bool). read_as b (heading_in ws)) (sym match_is)

    pub words_wrong : match ≡ false → Err Cause.Heading ≡ read_of ws
    words_wrong z = sym (read_is ∙ ap (λ (b : Bool). read_as b (heading_in ws)) z)

    pub words_good : (anchoring : Anchoring) (symmetry : Symmetry) → anchoring ≡ anchoring_of (flag_bits ws) → symmetry ≡ symmetry_of (flag_bits ws) → match ≡ true
        → Ok (record { measures = measures_in ws; form = form; anchoring = anchoring; symmetry = symmetry; places = p }) ≡ read_of ws
    unfolding heading_in
    words_good anchoring symmetry a b z = rw (read_is, z, a, b, q, f) refl

-- ---- what a heading that is read tells

picked : (b : Bool) (g h : Heading) → Ok h ≡ read_as b g → (b ≡ true) × (h ≡ g)
picked true g h e = (refl, cc)
picked false g h e = absurd (let y : ◌≡◌ {A = ℕ} 0 1 = cc in omega arith)

pub read_good : (ws : List ℕ) (h : Heading) → Ok h ≡ read_of ws → (heading_ok ws ≡ true) × (h ≡ heading_in ws)
unfolding read_of
read_good ws h e = picked (heading_ok ws) (heading_in ws) h e

missed : (b : Bool) (g : Heading) (x : Refusal) → Err x ≡ read_as b g → (x ≡ Cause.Heading) × (b ≡ false)
missed true g x e = absurd (let y : ◌≡◌ {A = ℕ} 0 1 = cc in omega arith)
missed false g x e = (cc, refl)

pub read_wrong : (ws : List ℕ) (x : Refusal) → Err x ≡ read_of ws → (x ≡ Cause.Heading) × (heading_ok ws ≡ false)
unfolding read_of
read_wrong ws x e = missed (heading_ok ws) (heading_in ws) x e

matched : (ws : List ℕ) (m : Measures) (p : Places) → words_match ws m p ≡ true → (p.end ≤ length ws) × (work_length m.atoms m.supercell ≤ most_work)
unfolding words_match
matched ws m p e =
    let n = eqb-true (length ws) (filled p.end) (and_left (eqb (length ws) (filled p.end)) _ e) in
    let r = and_right (eqb (length ws) (filled p.end)) _ e in
    (omega arith, leb-true _ _ (and_left (leb (work_length m.atoms m.supercell) most_work) _ r))

flags_at : (m : Measures) (form : Form) → (places_of m form).constants ≡ (places_of m form).flags + slots m
unfolding places_with sizes_of
flags_at m form = refl

second_at : (m : Measures) (form : Form) → (places_of m form).end ≡ (places_of m form).second + slots m
unfolding places_with sizes_of
second_at m form = refl

pub fitted : (ws : List ℕ) (h : Heading) → length ws ≤ most_words → Ok h ≡ read_of ws → Fitted h (length ws)
unfolding heading_ok heading_in
fitted ws h few e =
    let r = read_good ws h e in
    let m = measures_in ws in
    let form = form_of (flag_bits ws) in
    let p = places_of m form in
    let e1 = and_right (eqb (edition ws) 1) _ r.0 in
    let e2 = and_right (ltb (flag_bits ws) 8) _ e1 in
    let f = matched ws m p (and_right (measures_natural m) (words_match ws m p) e2) in
    rw r.1
    (record {
      tables = placed m form p (length ws) refl f.0;
      few = few;
      first = (measures_before m form (omega arith)).first;
      flags = flags_at m form;
      second = second_at m form;
      work = f.1;
    })
