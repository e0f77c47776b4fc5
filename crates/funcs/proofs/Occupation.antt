-- The occupation of a positive frequency at a temperature without sign bit is no NaN and has no sign. Assumes nothing.
use mathlib.Core.Path.{sym, subst}
use mathlib.Core.Bool.{true, false}
use Prim.Native.Nat.{ℕ, suc, ◌-◌, ◌*◌, ◌≤◌}
use lib.IntN.{ℤ, pos}
use lib.Dec.{T, ltb}
use borrow.Author.Tests.{le-ltb}
use lib.Ieee.{Float, nan, inf, fin, binary64, up, down, lt, le, eq, neg, sum, add, sub, of_bits}
use Rattle.phonon.specs.Number.{◌⊖◌, ◌⊘◌, f1}
use Rattle.phonon.specs.Exp.{exp}
use Rattle.phonon.specs.Funcs.{excess, bose_einstein}
use Rattle.phonon.proofs.Order.{at_most}
use Rattle.floats.specs.Sign.{Unsigned}
use Rattle.floats.proofs.Compare.{pick_no}
use Rattle.floats.proofs.Unsigned.{unsigned_least, unsigned_round, unsigned_over}
use Rattle.funcs.proofs.ExpLeast.{exp_least_of}

-- one less, of a value of at least one
unsigned_less_one : (v : Float) → T (le f1 v) → Unsigned (sub binary64 v f1)
unfolding sub neg add sum le lt eq of_bits
unsigned_less_one nan h = absurd h
unsigned_less_one (inf true) h = absurd h
unsigned_less_one (inf false) h = tt
unsigned_less_one (fin true m e) h = absurd (unsigned_least (fin true m e) h)
unsigned_less_one (fin false m e) h =
    let l : 1 * 1 * down e ≤ m * up e * 1 = at_most _ _ true h in
    subst Unsigned (sym (pick_no (ltb (m * up e * 1) (1 * 1 * down e)) _ _ (le-ltb (m * up e * 1) (1 * 1 * down e) l))) (unsigned_round (m * up e * 1 - 1 * 1 * down e) (down e * 1))

-- the occupation of a positive frequency, at a finite temperature without sign
pub occupation_unsigned : (m : ℕ) (e : ℤ) (n : ℕ) (d : ℤ) → Unsigned (bose_einstein (fin false (suc m) e) (fin false n d))
unfolding bose_einstein excess of_bits
occupation_unsigned m e n d =
    let x = fin false (suc m) e ⊘ fin false n d in
    unsigned_over 0 (pos 0) (exp x ⊖ f1) (unsigned_less_one (exp x) (exp_least_of x (unsigned_over m e (fin false n d) tt)))
