-- Sums beside which a block of force constants may wait to be added.
use mathlib.Core.Path.{◌≡◌, ◌∙◌}
use mathlib.Core.List.{List}
use Prim.Native.Nat.{ℕ, ◌<◌}
use lib.ListN.{length}
use lib.Ieee.{Float}
use Rattle.std.specs.Prelude.{Option, None}
use Rattle.phonon.specs.declared.Complex.{Complex}
use Rattle.planes.specs.Split.{split, WroteSplit, Cols}
use Rattle.real_to_reciprocal.specs.declared.elements.Block.{Block}
use Rattle.real_to_reciprocal.specs.Pair.{with_held, Settled}

module _ {constants t : List Float} {f : ℕ → Complex} where
  -- sums beside which nothing waits
  pub settled_none : Cols t 27 f → Settled constants t None f
  settled_none s = record { size = s.size; room = tt; sum = s.col }

  -- sums that are written anew, beside which nothing waits
  pub settled_wrote : {t' : List Float} → length t ≡ 54 → WroteSplit t t' 0 27 27 f → Settled constants t' None f
  settled_wrote l w = record { size = w.size ∙ l; room = tt; sum = w.inside }

module _ {constants t : List Float} {h : Option Block} {f : ℕ → Complex} where
  -- the same sums by another name
  pub settled_ext : {g : ℕ → Complex} → Settled constants t h f → ((e : ℕ) → e < 27 → f e ≡ g e) → Settled constants t h g
  settled_ext s q = record { size = s.size; room = s.room; sum = λ e l. s.sum e l ∙ q e l }

  -- sums to which the block that waits is added
  pub settled_cols : {t' : List Float} → Settled constants t h f → WroteSplit t t' 0 27 27 (λ e. with_held constants h e (split t 0 27 e)) → Cols t' 27 f
  settled_cols s w = record { size = w.size ∙ s.size; col = λ e l. w.inside e l ∙ s.sum e l }
