-- The first weights of an accepted set are values of its shape at distances of finite frequencies, which are no NaN; and so none is negative. Assumes nothing.
use mathlib.Core.Path.{◌≡◌, sym, subst}
use Prim.Native.Nat.{ℕ, ◌/◌, ◌%◌, ◌<◌}
use lib.Ieee.{nan}
use Rattle.phonon.specs.Number.{index, at, int}
use Rattle.phonon.proofs.Laws.{table_at}
use Rattle.floats.proofs.Numbers.{number_finite, number_sub}
use Rattle.integration_weights.specs.Weights.{weights_from, slot_weights}
use Rattle.integration_weights.specs.Sets.{WeightsSet, bands_in, slots_in, slot_of}
use Rattle.integration_weights.specs.Refusal.{weights_refusal}
use Rattle.integration_weights.specs.Doors.{weights_leaves, weights_outcome}
use Rattle.integration_weights.specs.Claims.{Nonnegative, NonnegativeWeights}
use Rattle.integration_weights.proofs.CheckLaws.{weights_facts, leg_finite, bands_of_lem}
use Rattle.integration_weights.proofs.Nonnegative.{nonnegative_shapes}

slot_nonnegative : (s : WeightsSet) → weights_refusal s ≡ 0 → (n : ℕ) → n < slots_in s → Nonnegative (slot_of s n).first
unfolding slot_of slot_weights weights_from
slot_nonnegative s e n h =
    let b = bands_of_lem s e n h in
    let w = weights_facts s e in
    let x = leg_finite s e 0 (index (int s.bands (n / bands_in s / bands_in s))) b.first in
    let y = leg_finite s e 1 (n / bands_in s % bands_in s) b.second in
    let z = leg_finite s e 2 (n % bands_in s) b.third in
    nonnegative_shapes s.shape _ w.width w.above (number_sub _ _ (number_sub _ _ (number_finite _ x) y) z)

left : (s : WeightsSet) → weights_refusal s ≡ 0 → (n : ℕ) → n < slots_in s → at (weights_outcome s).first n ≡ (slot_of s n).first
unfolding weights_outcome weights_leaves
left s e n h = rw e (table_at (slots_in s) n (λ k. (slot_of s k).first) nan h)

pub nonnegative_weights : NonnegativeWeights
nonnegative_weights s e n h = subst Nonnegative (sym (left s e n h)) (slot_nonnegative s e n h)
