-- What the door answers and leaves, for every set. The answer is given by its number, 0 where the set is worked through.
use Rattle.std.specs.Prelude.{ℕ, zero, suc, List, Float}
use Rattle.phonon.specs.Number.{table}
use Rattle.integration_weights.specs.Sets.{WeightsSet, slots_in, slot_of}
use Rattle.integration_weights.specs.Refusal.{weights_refusal}

pub record WeightsOutcome : Type 0 where
  pub answer : ℕ
  pub first : List Float
  pub second : List Float
  pub flags : List ℕ

unfoldable pub weights_leaves : ℕ → WeightsSet → WeightsOutcome
weights_leaves zero s = record {
  answer = 0;
  first = table (slots_in s) (λ n. (slot_of s n).first);
  second = table (slots_in s) (λ n. (slot_of s n).second);
  flags = table (slots_in s) (λ n. (slot_of s n).flag);
}
weights_leaves (suc n) s = record { answer = suc n; first = s.first; second = s.second; flags = s.flags }

unfoldable pub weights_outcome : WeightsSet → WeightsOutcome
weights_outcome s = weights_leaves (weights_refusal s) s
