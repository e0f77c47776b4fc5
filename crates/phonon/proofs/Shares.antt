-- A joined set that is accepted holds an accepted set of one triplet, and so does each share of an accepted list.
use Prim.Native.Nat.{ℕ, ◌+◌, ◌-◌, ◌*◌, ◌<◌, ◌≤◌}
use native.Mathlib.Nat.{mul-le-mul_right}
use native.Mathlib.Omega.{arith}
use mathlib.Core.Path.{◌≡◌, refl, ap, ◌∙◌}
use mathlib.Core.Bool.{true}
use mathlib.Core.List.{List}
use lib.Dec.{leb}
use borrow.Author.Tests.{eqb-true, eq-eqb}
use lib.IntN.{ℤ, pos}
use lib.ListN.{length}
use lib.Ieee.{Float}
use Rattle.phonon.specs.Tests.{within, all_within}
use Rattle.phonon.specs.Sets.{slots, part, TripletSet, ListSet, JoinedSet, triplet_of, of_list}
use Rattle.phonon.specs.Limits.{sizes_of}
use Rattle.phonon.specs.Refusal.{buffer_lengths, sizes, points_ok, count_tests, tests_of, triplet_phases, triplet_tests, triplet_refusal, list_refusal, joined_refusal}
use Rattle.phonon.proofs.Laws.{part_at, part_size}
use Rattle.phonon.proofs.Lowest.{none_both, none_append, passing, none_fails}
use Rattle.phonon.proofs.Accepted.{holds, all_hold, every_at, every_from}

-- ---- the joined door

pub joined_share : (s : JoinedSet) → joined_refusal s ≡ 0 → triplet_refusal (triplet_of s) ≡ 0
unfolding joined_refusal triplet_refusal
joined_share s e = (none_both (triplet_tests (triplet_of s)) _ e).0

-- ---- a share of a list

-- part t of m parts of n entries ends within them
pub part_fits : (n : ℕ) {m t : ℕ} → t < m → t * n + n ≤ m * n
part_fits n h = omega (arith, mul-le-mul_right n h)

pub part_length : {A : Type 0} (n t : ℕ) (l : List A) → t * n + n ≤ length l → length (part n t l) ≡ n
part_length n t l h = part_size l (t * n) n h

part_within : (low high : ℤ) (n t : ℕ) (l : List ℤ) → t * n + n ≤ length l → all_within low high l ≡ true → all_within low high (part n t l) ≡ true
unfolding all_within
part_within low high n t l h w =
    every_from _ (length (part n t l)) (λ k p.
    let q : k < n = omega (arith, part_length n t l h) in
    ap (within low high) (part_at l (t * n) n k (pos 0) q) ∙ every_at _ (length l) (t * n + k) w (omega arith))

-- the share of triplet t, with any strengths of its length and any work buffer of the list's length
abbrev pub share_of : ListSet → ℕ → List Float → List Float → TripletSet
share_of s t strengths work = record {
  tables = s.tables;
  triplet = part 3 t s.triplets;
  flags = part (slots s.tables.measures) t s.flags;
  strengths = strengths;
  work = work;
}

pub list_share : (s : ListSet) → list_refusal s ≡ 0 → (t : ℕ) → t < s.list → (strengths work : List Float)
    → length strengths ≡ slots s.tables.measures → length work ≡ length s.work → triplet_refusal (share_of s t strengths work) ≡ 0
unfolding list_refusal triplet_refusal buffer_lengths points_ok sizes_of
list_share s e t p strengths work es ew =
    let a = none_both (count_tests s.list s.triplets) _ e in
    let b = none_both (tests_of s.tables) _ a.1 in
    let c = passing (count_tests s.list s.triplets) refl a.0 in
    let d = passing _ refl b.1 in
    let m = holds _ d.0 in
    let r : t * 3 + 3 ≤ length s.triplets = omega (arith, part_fits 3 p, eqb-true (length s.triplets) (3 * s.list) c.1.0) in
    let o : t * slots s.tables.measures + slots s.tables.measures ≤ length s.flags = omega (arith, part_fits (slots s.tables.measures) p, eqb-true (length s.flags) _ m.0) in
    none_append (tests_of s.tables) _ b.0
    (none_fails _ (
      all_hold _ (eq-eqb _ _ (part_length (slots s.tables.measures) t s.flags o), (eq-eqb _ _ es, (ap (leb (sizes s.tables).work) ew ∙ m.1.1.0, tt))),
      (
        part_within (pos 0) (pos (s.tables.measures.grid - 1)) 3 t s.triplets r d.1.0,
        (every_at (λ x. triplet_phases (of_list s x)) s.list t d.1.1.0 p, tt),
      ),
    ))
