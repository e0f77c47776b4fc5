-- What is known of an accepted set, what the work requires of it, and what the door leaves of a set that is refused and of one that is accepted.
use Prim.Native.Nat.{ℕ, ◌+◌, ◌*◌, ◌/◌, ◌%◌, ◌≤◌, ◌<◌}
use native.Mathlib.Nat.{mul-le-mul_right, mul_assoc, add-mul, add_assoc, mod-lt, div-lt_iff_lt-mul, div-add-mod'}
use native.Mathlib.Decide.{dec_lt}
use native.Mathlib.Numerals.{add-one}
use native.Mathlib.Omega.{arith}
use mathlib.Core.Path.{◌≡◌, refl, sym, ap, ◌∙◌}
use mathlib.Core.Bool.{true}
use mathlib.Core.List.{List}
use borrow.Author.Tests.{eqb-true}
use lib.IntN.{pos}
use lib.Ieee.{Float, nan, lt}
use lib.ListN.{length, get_or-eq_default}
use Rattle.phonon.specs.Number.{f0, index, at, int, table}
use Rattle.phonon.specs.Tests.{finite, all_finite}
use Rattle.phonon.specs.Sets.{part, measures_of}
use Rattle.phonon.specs.Refusal.{points_ok}
use Rattle.phonon.proofs.Lowest.{none_both, passing}
use Rattle.phonon.proofs.Accepted.{Measured, measured_facts, holds, every_at, index_below}
use Rattle.phonon.proofs.Laws.{table_ext, div_of, mod_of, pair_lt, part_at}
use Rattle.planes.proofs.Products.{row_next}
use Rattle.checks.proofs.AnswerLaws.{turned_back}
use Rattle.integration_weights.specs.Shapes.{width_of}
use Rattle.integration_weights.specs.Sets.{WeightsSet, bands_in, slots_in, leg_frequency, slot_of}
use Rattle.integration_weights.specs.Refusal.{band_lengths, weight_lengths, bands_ok, width_ok, band_tests, weights_refusal}
use Rattle.integration_weights.specs.Doors.{WeightsOutcome, weights_leaves, weights_outcome}
use Rattle.integration_weights.specs.Rows.{SameLength, Written, slot_in, Good, Finite}

pub record AcceptedWeights (s : WeightsSet) : Type 0 where
  pub measured : Measured (measures_of s.measures)
  pub bands : length s.bands ≡ s.measures.first
  pub frequencies : length s.frequencies ≡ s.measures.grid * bands_in s
  pub inside : bands_ok (measures_of s.measures) s.bands ≡ true
  pub real : all_finite s.frequencies ≡ true
  pub first : length s.first ≡ slots_in s
  pub second : length s.second ≡ slots_in s
  pub flags : length s.flags ≡ slots_in s
  pub points : points_ok s.measures.grid s.triplet ≡ true
  pub width : finite (width_of s.shape) ≡ true
  pub above : lt f0 (width_of s.shape) ≡ true

pub weights_facts : (s : WeightsSet) → weights_refusal s ≡ 0 → AcceptedWeights s
unfolding weights_refusal band_lengths weight_lengths width_ok
weights_facts s e =
    let a = none_both (band_tests (measures_of s.measures) s.bands s.frequencies) _ e in
    let h = passing (band_tests (measures_of s.measures) s.bands s.frequencies) refl a.0 in
    let g = passing _ refl a.1 in
    let l = holds _ h.1.0 in
    let k = holds _ g.0 in
    record {
      measured = measured_facts (measures_of s.measures) h.0;
      bands = eqb-true _ _ l.0;
      frequencies = eqb-true _ _ l.1.0;
      inside = h.1.1.0;
      real = h.1.1.1.0;
      first = eqb-true _ _ k.0;
      second = eqb-true _ _ k.1.0;
      flags = eqb-true _ _ k.1.1.0;
      points = g.1.0;
      width = g.1.1.0;
      above = g.1.1.1.0;
    }

-- the frequencies at the grid point of leg l, as they are lent, with the point g as it was read
abbrev pub leg_of : WeightsSet → ℕ → List Float
leg_of s l = part (bands_in s) (index (int s.triplet l)) s.frequencies

pub leg_is : (s : WeightsSet) (l : ℕ) {g : ℕ} {leg : List Float} → g ≡ index (int s.triplet l) → leg ≡ part (bands_in s) g s.frequencies → leg ≡ leg_of s l
leg_is s l q h = h ∙ rw q refl

module _ (s : WeightsSet) (e : weights_refusal s ≡ 0) where
  facts : AcceptedWeights s
  facts = weights_facts s e

  pub some : 0 < bands_in s
  some = omega (arith, facts.measured.atoms)

  pub few : bands_in s ≤ 3000
  few = omega (arith, facts.measured.atoms_most)

  -- ---- what is read

  -- a grid point of the triplet; a triplet shorter than three reads 0
  point_below : (l : ℕ) → index (int s.triplet l) < s.measures.grid
  unfolding points_ok
  point_below l = by (dec_lt l (length s.triplet))
    where
      by : Dec (l < length s.triplet) → index (int s.triplet l) < s.measures.grid
      by (yes h) = index_below s.measures.grid s.triplet facts.measured.grid facts.points l h
      by (no h) = let z : int s.triplet l ≡ pos 0 = get_or-eq_default s.triplet (pos 0) (omega arith) in rw z (omega (arith, facts.measured.grid))

  -- its frequencies lie within the slice
  pub reached : (l : ℕ) → (index (int s.triplet l) + 1) * bands_in s ≤ length s.frequencies
  reached l = rw (add-one, facts.frequencies) (mul-le-mul_right (bands_in s) (point_below l))

  -- with the point g as it was read
  pub reached_at : (l : ℕ) {g : ℕ} → g ≡ index (int s.triplet l) → (g + 1) * bands_in s ≤ length s.frequencies
  reached_at l q = rw q (reached l)

  pub band_below : (b : ℕ) → b < length s.bands → index (int s.bands b) < bands_in s
  unfolding bands_ok
  band_below = index_below (bands_in s) s.bands some facts.inside

  -- what is read of a leg is finite
  pub leg_finite : (l n : ℕ) → n < bands_in s → finite (leg_frequency s l n) ≡ true
  unfolding all_finite
  leg_finite l n h =
      let g = index (int s.triplet l) in
      every_at (λ k. finite (at s.frequencies k)) (length s.frequencies) (g * bands_in s + n) facts.real (omega (arith, reached l, row_next g (bands_in s)))

  -- ---- a slot

  pub record Bands (n : ℕ) : Type 0 where
    pub first : index (int s.bands (n / bands_in s / bands_in s)) < bands_in s
    pub second : n / bands_in s % bands_in s < bands_in s
    pub third : n % bands_in s < bands_in s

  pub bands_of_lem : (n : ℕ) → n < slots_in s → Bands n
  bands_of_lem n h =
      record {
        first = band_below (n / bands_in s / bands_in s) (rw facts.bands ((div-lt_iff_lt-mul some).1 ((div-lt_iff_lt-mul some).1 h)));
        second = mod-lt (n / bands_in s) some;
        third = mod-lt n some;
      }

  -- in one block of B * B slots after another
  module _ (n : ℕ) where
    abbrev B : ℕ
    B = bands_in s

    split : n ≡ n / B / B * (B * B) + (n / B % B * B + n % B)
    split =
        sym (div-add-mod' n B)
        ∙ ap (λ (x : ℕ). x * B + n % B) (sym (div-add-mod' (n / B) B))
        ∙ ap (λ (x : ℕ). x + n % B) (add-mul (n / B / B * B) (n / B % B) B)
        ∙ ap (λ (x : ℕ). x + n / B % B * B + n % B) (mul_assoc (n / B / B) B B)
        ∙ add_assoc (n / B / B * (B * B)) (n / B % B * B) (n % B)

    place : n / B % B * B + n % B < B * B
    place = pair_lt (mod-lt (n / B) some) (mod-lt n some)

    block : n / (B * B) ≡ n / B / B
    block = ap (λ (x : ℕ). x / (B * B)) split ∙ div_of (B * B) place (n / B / B)

    within : n % (B * B) ≡ n / B % B * B + n % B
    within = ap (λ (x : ℕ). x % (B * B)) split ∙ mod_of (B * B) place (n / B / B)

    row : n % (B * B) / B ≡ n / B % B
    row = ap (λ (x : ℕ). x / B) within ∙ div_of B (mod-lt n some) (n / B % B)

    column : n % (B * B) % B ≡ n % B
    column = ap (λ (x : ℕ). x % B) within ∙ mod_of B (mod-lt n some) (n / B % B)

  leg_at : (l n : ℕ) → n < bands_in s → at (leg_of s l) n ≡ leg_frequency s l n
  leg_at l n h = part_at s.frequencies (index (int s.triplet l) * bands_in s) (bands_in s) n nan h

  pub real : (l : ℕ) {leg : List Float} → leg ≡ leg_of s l → length leg ≡ bands_in s → Finite leg
  real l p n k h = let i : k < bands_in s = omega arith in rw p (ap finite (leg_at l k i) ∙ leg_finite l k i)

  pub good_shape : Good s.shape
  good_shape = record { width = facts.width; above = facts.above }

  slot_same : {l0 l1 l2 : List Float} → l0 ≡ leg_of s 0 → l1 ≡ leg_of s 1 → l2 ≡ leg_of s 2 → length l1 ≡ bands_in s → length l2 ≡ bands_in s
      → (n : ℕ) → n < slots_in s → slot_in s.shape s.bands l0 l1 l2 n ≡ slot_of s n
  unfolding slot_of
  slot_same e0 e1 e2 n1 n2 n h =
      let b = bands_of_lem n h in
      rw (n1, n2, block n, row n, column n, e0, e1, e2, leg_at 0 _ b.first, leg_at 1 _ b.second, leg_at 2 _ b.third) refl

  -- ---- the outcome

  pub sized : {n1 n2 : ℕ} → n1 ≡ bands_in s → n2 ≡ bands_in s → SameLength (length s.bands * (n1 * n2)) (length s.first) (length s.second) (length s.flags)
  sized e1 e2 =
      let k : length s.bands * (bands_in s * bands_in s) ≡ slots_in s = rw facts.bands (sym (mul_assoc s.measures.first (bands_in s) (bands_in s))) in
      rw (e1, e2) (record { first = facts.first ∙ sym k; second = facts.second ∙ sym k; flags = facts.flags ∙ sym k })

  -- from what the work leaves, with the legs that it was lent
  pub accepted : {l0 l1 l2 : List Float} (a b : List Float) (c : List ℕ) → l0 ≡ leg_of s 0 → l1 ≡ leg_of s 1 → l2 ≡ leg_of s 2 → length l1 ≡ bands_in s → length l2 ≡ bands_in s
      → Written (slot_in s.shape s.bands l0 l1 l2) (length s.bands * (length l1 * length l2)) a b c
      → ◌≡◌ {A = WeightsOutcome} (record { answer = 0; first = a; second = b; flags = c }) (weights_outcome s)
  unfolding weights_outcome weights_leaves
  accepted {l0} {l1} {l2} a b c e0 e1 e2 n1 n2 w =
      let k : length s.bands * (length l1 * length l2) ≡ slots_in s = rw (n1, n2, facts.bands) (sym (mul_assoc s.measures.first (bands_in s) (bands_in s))) in
      let v = slot_same e0 e1 e2 n1 n2 in
      let p : a ≡ table (slots_in s) (λ n. (slot_of s n).first) = w.first ∙ rw k (table_ext (slots_in s) _ _ (λ n h. ap (λ x. x.first) (v n h))) in
      let q : b ≡ table (slots_in s) (λ n. (slot_of s n).second) = w.second ∙ rw k (table_ext (slots_in s) _ _ (λ n h. ap (λ x. x.second) (v n h))) in
      let r : c ≡ table (slots_in s) (λ n. (slot_of s n).flag) = w.flags ∙ rw k (table_ext (slots_in s) _ _ (λ n h. ap (λ x. x.flag) (v n h))) in
      rw (e, p, q, r) refl

pub refused : (s : WeightsSet) {n : ℕ} → 0 < n → n ≡ weights_refusal s → ◌≡◌ {A = WeightsOutcome} (record { answer = n; first = s.first; second = s.second; flags = s.flags }) (weights_outcome s)
unfolding weights_outcome weights_leaves
refused s = turned_back (λ n. weights_leaves n s) (λ n. record { answer = n; first = s.first; second = s.second; flags = s.flags }) (λ n. refl)
