-- Measures of at most 6,048: no sum of their sizes wraps. A larger measure does not match the words of any file.
use Prim.Native.Nat.{ℕ, ◌*◌, ◌≤◌, ◌<◌}
use mathlib.Core.Bool.{true, false, ◌&&◌}
use mathlib.Core.List.{List}
use mathlib.Core.Path.{◌≡◌, refl, sym, ◌∙◌}
use lib.Dec.{leb, eqb}
use lib.ListN.{length}
use Rattle.std.specs.Int.{div_ceil}
use borrow.Author.Tests.{leb-true, le-leb, lt-ltb, ne_eqb}
use native.Mathlib.Decide.{dec_le}
use native.Mathlib.Omega.{arith}
use Rattle.phonon.specs.declared.Measures.{Measures}
use Rattle.phonon.specs.declared.Sizes.{Sizes}
use Rattle.phonon.specs.declared.Form.{Form}
use Rattle.phonon.specs.Limits.{sizes_of}
use Rattle.checks.specs.Small.{Small}
use Rattle.checks.proofs.Laws.{and_left, and_right}
use Rattle.checks.proofs.SizeLaws.{products}
use Rattle.carton.specs.Most.{most_words}
use Rattle.carton.specs.declared.heading.Places.{Places}
use Rattle.carton.specs.Heading.{filled, places_with, places_of, measures_natural, words_match}
use Rattle.carton.specs.Fitted.{Placed}
use Rattle.carton.specs.Small.{small_ok}

small : (m : Measures) → small_ok m ≡ true → Small most_words m
unfolding small_ok
small m e =
    let p = leb m.atoms most_words in
    let s = leb m.supercell most_words in
    let f = leb m.first most_words in
    let g = leb m.grid most_words in
    let v = leb m.vectors most_words in
    let d = and_left (((p && s) && f) && g) v e in
    let c = and_left ((p && s) && f) g d in
    let b = and_left (p && s) f c in
    record {
      atoms = leb-true _ _ (and_left p s b);
      supercell = leb-true _ _ (and_right p s b);
      first = leb-true _ _ (and_right (p && s) f c);
      grid = leb-true _ _ (and_right ((p && s) && f) g d);
      vectors = leb-true _ _ (and_right (((p && s) && f) && g) v e);
    }

is_small : (m : Measures) → Small most_words m → small_ok m ≡ true
unfolding small_ok
is_small m h =
    rw (le-leb _ _ h.atoms, le-leb _ _ h.supercell, le-leb _ _ h.first, le-leb _ _ h.grid, le-leb _ _ h.vectors) refl

pub small_sizes : (m : Measures) → small_ok m ≡ true → Small 65536 m
small_sizes m e =
    let h = small m e in
    record { atoms = omega arith; supercell = omega arith; first = omega arith; grid = omega arith; vectors = omega arith }

-- what the places are summed up of
pub record Sized (m : Measures) (z : Sizes) : Type 0 where
  pub measures : Small 65536 m
  pub addresses : z.addresses ≤ 10000000000000000
  pub vectors : z.vectors ≤ 10000000000000000
  pub multiplicity : z.multiplicity ≤ 10000000000000000
  pub frequencies : z.frequencies ≤ 10000000000000000
  pub eigenvectors : z.eigenvectors ≤ 10000000000000000
  pub shortest : z.shortest ≤ 10000000000000000
  pub nonzero : z.nonzero ≤ 10000000000000000
  pub slots : z.slots ≤ 10000000000000000
  pub constants : z.constants ≤ 10000000000000000

pub sized : (m : Measures) (form : Form) (z : Sizes) → small_ok m ≡ true → z ≡ sizes_of m form → Sized m z
unfolding sizes_of
sized m form z e q =
    let h = small_sizes m e in
    let b = products m form h in
    rw q
    (record {
      measures = h;
      addresses = omega arith;
      vectors = omega arith;
      multiplicity = omega arith;
      frequencies = omega arith;
      eigenvectors = omega arith;
      shortest = omega arith;
      nonzero = omega arith;
      slots = omega arith;
      constants = omega arith;
    })

-- ---- places

-- the last table ends where no count wraps
pub end_most : (m : Measures) (form : Form) (p : Places) → small_ok m ≡ true → p ≡ places_of m form → p.end ≤ 200000000000000000
unfolding places_with
end_most m form p e q =
    let s = sized m form (sizes_of m form) e refl in
    let k = s.measures in
    rw q (omega arith)

pub placed : (m : Measures) (form : Form) (p : Places) (n : ℕ) → p ≡ places_of m form → p.end ≤ n → Placed p n
unfolding places_with
placed m form p n e h =
    let k = rw e at h in
    rw e
    (record {
      addresses = record { order = omega arith; inside = omega arith };
      vectors = record { order = omega arith; inside = omega arith };
      multiplicity = record { order = omega arith; inside = omega arith };
      p2s = record { order = omega arith; inside = omega arith };
      s2p = record { order = omega arith; inside = omega arith };
      masses = record { order = omega arith; inside = omega arith };
      bands = record { order = omega arith; inside = omega arith };
      frequencies = record { order = omega arith; inside = omega arith };
      eigenvectors = record { order = omega arith; inside = omega arith };
      shortest = record { order = omega arith; inside = omega arith };
      nonzero = record { order = omega arith; inside = omega arith };
      flags = record { order = omega arith; inside = omega arith };
      constants = record { order = omega arith; inside = omega arith };
      first = record { order = omega arith; inside = omega arith };
      second = record { order = omega arith; inside = omega arith };
    })

-- each measure has a table at least as long
pub measures_before : (m : Measures) (form : Form) → (places_of m form).end ≤ most_words → Small most_words m
unfolding places_with sizes_of
measures_before m form h =
    record { atoms = omega arith; supercell = omega arith; first = omega arith; grid = omega arith; vectors = omega arith }

-- the words of whole blocks, as the code counts them
pub filled_is : (n d : ℕ) → d ≡ div_ceil n 63 → filled n ≡ 63 * d
filled_is n d e = omega arith

-- more words than there are
pub too_few : (n end : ℕ) → n < end → eqb n (filled end) ≡ false
too_few n end h = ne_eqb _ _ (λ (e : n ≡ filled end). omega arith)

pub not_small : (ws : List ℕ) (m : Measures) (form : Form) → length ws ≤ most_words → small_ok m ≡ false → words_match ws m (places_of m form) ≡ false
unfolding words_match
not_small ws m form h e = go (dec_le (places_of m form).end most_words)
  where
    go : Dec ((places_of m form).end ≤ most_words) → words_match ws m (places_of m form) ≡ false
    go (yes k) = absurd (let z : true ≡ false = sym (is_small m (measures_before m form k)) ∙ e in let y : ◌≡◌ {A = ℕ} 0 1 = cc in omega arith)
    go (no k) = rw (too_few (length ws) (places_of m form).end (omega arith)) refl

pub naturals : (m : Measures) → small_ok m ≡ true → measures_natural m ≡ true
unfolding measures_natural
naturals m e =
    let h = small m e in
    rw (
      lt-ltb m.atoms 9223372036854775808 (omega arith),
      lt-ltb m.supercell 9223372036854775808 (omega arith),
      lt-ltb m.first 9223372036854775808 (omega arith),
      lt-ltb m.grid 9223372036854775808 (omega arith),
      lt-ltb m.vectors 9223372036854775808 (omega arith),
    )
    refl
