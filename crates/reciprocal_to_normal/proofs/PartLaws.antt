-- A part of a slice that was lent and has come back.
use mathlib.Core.Path.{◌≡◌, ap, ◌∙◌}
use mathlib.Core.List.{List, ◌++◌}
use Prim.Native.Nat.{ℕ, ◌+◌, ◌-◌, ◌≤◌}
use native.Mathlib.Omega.{arith}
use lib.ListN.{length, get_or, take, drop, get_or-append}
use lib.Seq.{length-take-le, get_or-take, get_or-drop, get_or-append_right}
use borrow.Rule.Slice.PartMut.{put_mid, mid_of, post_of, same_len_mid, mid_len}
use lib.Ieee.{Float, nan}
use Rattle.phonon.specs.Number.{at}
use Rattle.planes.specs.Region.{Wrote}
use Rattle.planes.specs.Split.{WroteSplit}
use Rattle.planes.proofs.SplitLaws.{complex_eq}

-- the n numbers from a on, as y
pub part_wrote : (l y : List Float) (a n : ℕ) → length y ≡ length (mid_of a (a + n - a) l) → a + n ≤ length l → Wrote l (put_mid a (a + n - a) l y) a n (at y)
part_wrote l y a n long room =
    let cut : a + n - a ≡ n = omega arith in
    let e : length y ≡ n = long ∙ mid_len a (a + n) l room ∙ cut in
    let front : length (take a l) ≡ a = length-take-le a l (omega arith) in
    let tail = post_of a (a + n - a) l in
    record {
      size = same_len_mid a (a + n - a) l y long;
      inside = λ k p.
          get_or-append_right (take a l) (y ++ tail) (a + k) nan (omega (arith, front))
          ∙ ap (λ i. get_or (y ++ tail) i nan) (omega (arith, front)) ∙ get_or-append y tail nan k (omega (arith, e));
      before = λ j p. get_or-append (take a l) (y ++ tail) nan j (omega (arith, front)) ∙ get_or-take a l j nan p;
      after = λ j p.
          get_or-append_right (take a l) (y ++ tail) j nan (omega (arith, front))
          ∙ get_or-append_right y tail (j - length (take a l)) nan (omega (arith, front, e))
          ∙ get_or-drop (a + n - a) (drop a l) (j - length (take a l) - length y) nan
          ∙ get_or-drop a l (a + n - a + (j - length (take a l) - length y)) nan ∙ ap (at l) (omega (arith, front, e));
    }

-- two parts, as one array in two planes
pub two_parts : {l l₁ l₂ : List Float} {off d n : ℕ} {f g : ℕ → Float} → n ≤ d → Wrote l l₁ off n f → Wrote l₁ l₂ (off + d) n g → WroteSplit l l₂ off d n (λ c. record { re = f c; im = g c })
two_parts h w v =
    record {
      size = v.size ∙ w.size;
      inside = λ k p. complex_eq (v.before _ (omega arith) ∙ w.inside k p) (v.inside k p);
      before = λ j p. v.before j (omega arith) ∙ w.before j p;
      between = λ j p q. v.before j q ∙ w.after j (omega arith);
      after = λ j p. v.after j (omega arith) ∙ w.after j (omega arith);
    }
