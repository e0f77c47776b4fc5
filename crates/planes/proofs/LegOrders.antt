-- Each of the six orders of the legs is of three legs: one test of the whole table.
use mathlib.Core.Path.{◌≡◌, refl}
use mathlib.Core.Bool.{true}
use mathlib.Core.List.{[]}
use Prim.Native.Nat.{ℕ, ◌<◌}
use lib.Dec.{ltb}
use lib.ListN.{get_or}
use borrow.Author.Tests.{ltb-true}
use Rattle.phonon.specs.Tests.{every_below}
use Rattle.phonon.specs.Interaction.{orders}
use Rattle.phonon.proofs.Accepted.{every_at}

all_below : every_below (λ o. every_below (λ k. ltb (get_or (get_or orders o []) k 0) 3) 3) 6 ≡ true
unfolding every_below orders
all_below = refl

-- place k of order o is the number of a leg
pub orders_lt : (o k : ℕ) → o < 6 → k < 3 → get_or (get_or orders o []) k 0 < 3
orders_lt o k p q =
    ltb-true _ _
    (every_at (λ k. ltb (get_or (get_or orders o []) k 0) 3) 3 k
    (every_at (λ o. every_below (λ k. ltb (get_or (get_or orders o []) k 0) 3) 3) 6 o all_below p) q)
