-- A signed number that was read from a slice or an array is passed on by its bits, which say the same number.
use mathlib.Core.Path.{◌≡◌, ap, ◌∙◌}
use Prim.Native.Nat.{ℕ, ◌<◌, ◌^◌}
use lib.IntN.{ℤ}
use lib.Signed.{mag}
use mir.Val.{to_z, of_z, hbits}
use mir.ValLaws.{to_z-of_z}
use mir.Syntax.{w64}
use borrow.Author.Rules.{sfits_of}
use Rattle.phonon.specs.Number.{index}

pub read : {z : ℤ} → mag z < 2 ^ hbits w64 → to_z w64 (of_z w64 z) ≡ z
read h = to_z-of_z w64 _ (sfits_of h)

-- the same, as an index
pub read_index : (z : ℤ) {n : ℕ} → n ≡ index (to_z w64 (of_z w64 z)) → mag z < 2 ^ hbits w64 → n ≡ index z
read_index z e h = e ∙ ap index (read {z = z} h)
