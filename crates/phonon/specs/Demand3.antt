-- Demand 3, in document 01's words: what one triplet worked twice leaves alike. The proof is in proofs/TwoRuns.antt.
-- `≡` on Float is equality of bits with every NaN counted as one.
use Rattle.std.specs.Prelude.{ℕ, ◌+◌, ◌*◌, ◌<◌, ◌≡◌, true, false, Float}
use Rattle.std.specs.Float.Ieee.{lt, le}
use Rattle.phonon.specs.Number.{at, index, int, flagged}
use Rattle.phonon.specs.Common.{cat}
use Rattle.phonon.specs.Sets.{Phonons, Triplet, bands_of, slot, slots, TripletSet, ListSet, TotalsSet, JoinedSet, of_triplet, of_joined, of_list}
use Rattle.phonon.specs.Interaction.{point, strength_at}
use Rattle.phonon.specs.ImagSelfEnergy.{sum_alone, sum_joined, second1, third2, counted, total}
use Rattle.phonon.specs.Doors.{triplet_outcome, list_outcome, totals_outcome, joined_outcome}

-- ---- runs

-- a call of the one-triplet door, a call of the joined door, or the share of triplet t of a list call
pub data Run : Type 0 where
  one : TripletSet → Run
  joined : JoinedSet → Run
  share : ListSet → ℕ → Run

-- the call is accepted
abbrev pub IsAccepted : Run → Type 0
IsAccepted (one s) = (triplet_outcome s).answer ≡ 0
IsAccepted (joined s) = (joined_outcome s).answer ≡ 0
IsAccepted (share s t) = ((list_outcome s).answer ≡ 0) × (t < s.list)

-- the triplet that is worked
abbrev pub worked : Run → Triplet
worked (one s) = of_triplet s
worked (joined s) = of_joined s
worked (share s t) = of_list s t

-- what stands in slot number n after the call
abbrev pub written : Run → ℕ → Float
written (one s) n = at (triplet_outcome s).strengths n
written (joined s) n = at (joined_outcome s).strengths n
written (share s t) n = at (list_outcome s).strengths (t * slots s.tables.measures + n)

-- ---- the second run against the first

-- flags added, cutoff raised; frequencies and eigenvectors are free, and all else that the triplet is worked from is equal
pub record Narrowed (x y : Triplet) : Type 0 where
  pub measures : x.tables.measures ≡ y.tables.measures
  pub anchoring : x.tables.settings.anchoring ≡ y.tables.settings.anchoring
  pub symmetry : x.tables.symmetry ≡ y.tables.symmetry
  pub crystal : x.tables.crystal ≡ y.tables.crystal
  pub grid : x.tables.grid ≡ y.tables.grid
  pub bands : x.tables.bands ≡ y.tables.bands
  pub points : x.points ≡ y.points
  pub added : (n : ℕ) → flagged x.flags n ≡ true → flagged y.flags n ≡ true
  pub raised : le x.tables.settings.cutoff y.tables.settings.cutoff ≡ true

-- band n at grid point g, of B bands, is unchanged: its frequency, and both parts of its B eigenvector entries
pub record Unchanged (B : ℕ) (p q : Phonons) (g n : ℕ) : Type 0 where
  pub frequency : at p.frequencies (g * B + n) ≡ at q.frequencies (g * B + n)
  pub entries : (m : ℕ) → m < B → cat p.eigenvectors ((g * B + m) * B + n) ≡ cat q.eigenvectors ((g * B + m) * B + n)

-- band n at grid point g is unchanged, and lies above the second run's cutoff
pub record Stays (x y : Triplet) (g n : ℕ) : Type 0 where
  pub unchanged : Unchanged (bands_of y.tables.measures) x.tables.phonons y.tables.phonons g n
  pub above : lt y.tables.settings.cutoff (at y.tables.phonons.frequencies (g * bands_of y.tables.measures + n)) ≡ true

-- (b, j, k) is a slot
pub record IsSlot (x : Triplet) (b j k : ℕ) : Type 0 where
  pub first : b < x.tables.measures.first
  pub second : j < bands_of x.tables.measures
  pub third : k < bands_of x.tables.measures

-- a kept slot: the second run does not flag it, and its three bands stay
pub record Kept (x y : Triplet) (b j k : ℕ) : Type 0 where
  pub unflagged : flagged y.flags (slot (bands_of y.tables.measures) b j k) ≡ false
  pub stays0 : Stays x y (point y 0) (index (int y.tables.bands b))
  pub stays1 : Stays x y (point y 1) j
  pub stays2 : Stays x y (point y 2) k

-- ---- what is alike

-- a slot's strength in both runs: each is demand 2's strength, and they are the same
pub record SameStrength (r r' : Run) (b j k : ℕ) : Type 0 where
  pub first : written r (slot (bands_of (worked r).tables.measures) b j k) ≡ strength_at (worked r) b j k
  pub second : written r' (slot (bands_of (worked r').tables.measures) b j k) ≡ strength_at (worked r') b j k
  pub same : written r (slot (bands_of (worked r).tables.measures) b j k) ≡ written r' (slot (bands_of (worked r').tables.measures) b j k)

-- the bath and the weights of two joined calls are equal
pub record SameBath (s s' : JoinedSet) : Type 0 where
  pub bath : s.bath ≡ s'.bath
  pub first : s.first ≡ s'.first
  pub second : s.second ≡ s'.second

-- two calls of totals alone are equal but for frequencies, flags, cutoff and strengths
pub record SameElse (s s' : TotalsSet) : Type 0 where
  pub measures : s.measures ≡ s'.measures
  pub weights : s.weights ≡ s'.weights
  pub triplet : s.triplet ≡ s'.triplet
  pub bath : s.bath ≡ s'.bath
  pub first : s.first ≡ s'.first
  pub second : s.second ≡ s'.second

-- slot (b, j, k) has the same strength and the same later frequencies in two calls of totals alone
pub record SameSlot (s s' : TotalsSet) (b j k : ℕ) : Type 0 where
  pub strength : at s.strengths (slot (3 * s.measures.atoms) b j k) ≡ at s'.strengths (slot (3 * s.measures.atoms) b j k)
  pub second : second1 (sum_alone s) j ≡ second1 (sum_alone s') j
  pub third : third2 (sum_alone s) k ≡ third2 (sum_alone s') k

-- a first band's total in two calls of the joined door: each is demand 2's total of its call's strengths, and they are the same
pub record SameTotal (s s' : JoinedSet) (b : ℕ) : Type 0 where
  pub first : at (joined_outcome s).totals b ≡ total (sum_joined s) s.bath.temperature (joined_outcome s).strengths b
  pub second : at (joined_outcome s').totals b ≡ total (sum_joined s') s'.bath.temperature (joined_outcome s').strengths b
  pub same : at (joined_outcome s).totals b ≡ at (joined_outcome s').totals b

-- the same of two calls of totals alone
pub record SameAlone (s s' : TotalsSet) (b : ℕ) : Type 0 where
  pub first : at (totals_outcome s).totals b ≡ total (sum_alone s) s.bath.temperature s.strengths b
  pub second : at (totals_outcome s').totals b ≡ total (sum_alone s') s'.bath.temperature s'.strengths b
  pub same : at (totals_outcome s).totals b ≡ at (totals_outcome s').totals b

-- ---- the claim, over every pair of runs

pub record Demand3 : Type 0 where
  -- a kept slot has the same strength
  pub strengths : (r r' : Run) → IsAccepted r → IsAccepted r' → Narrowed (worked r) (worked r') → (b j k : ℕ) → IsSlot (worked r) b j k
      → Kept (worked r) (worked r') b j k → SameStrength r r' b j k
  -- a first band whose counted slots are the same and all kept has the same total
  pub totals : (s s' : JoinedSet) → IsAccepted (joined s) → IsAccepted (joined s') → Narrowed (of_joined s) (of_joined s') → SameBath s s'
      → (b : ℕ) → b < s.tables.measures.first
      → ((j k : ℕ) → IsSlot (of_joined s) b j k → counted (sum_joined s) b j k ≡ counted (sum_joined s') b j k)
      → ((j k : ℕ) → IsSlot (of_joined s) b j k → counted (sum_joined s) b j k ≡ true → Kept (of_joined s) (of_joined s') b j k)
      → SameTotal s s' b
  -- totals alone: a position whose counted slots are the same, with the same strengths and later frequencies there, has the same total
  pub alone : (s s' : TotalsSet) → (totals_outcome s).answer ≡ 0 → (totals_outcome s').answer ≡ 0 → SameElse s s'
      → (b : ℕ) → b < s.measures.first
      → ((j k : ℕ) → j < 3 * s.measures.atoms → k < 3 * s.measures.atoms → counted (sum_alone s) b j k ≡ counted (sum_alone s') b j k)
      → ((j k : ℕ) → j < 3 * s.measures.atoms → k < 3 * s.measures.atoms → counted (sum_alone s) b j k ≡ true → SameSlot s s' b j k)
      → SameAlone s s' b
