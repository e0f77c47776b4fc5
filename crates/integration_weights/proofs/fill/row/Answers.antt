-- After i turns each of the three slices holds the first 2 * i of its table: two slots more in a turn, and a last one where the row is odd.
use Prim.Native.Nat.{◌+◌, ◌-◌, ◌*◌}
use native.Mathlib.Omega.{arith}
use mathlib.Core.Path.{refl}
use lib.ListN.{length}
use Rattle.integration_weights.proofs.ShapeLaws.{pair_at}
use Rattle.integration_weights.proofs.ValueLaws.{values_good}
use Rattle.integration_weights.proofs.SlotLaws.{slots_none, slots_at, slots_all, row_one, row_two}
use Rattle.integration_weights.proofs.fill.row.Goals as goal

pub loop-i-init : goal.loop-i-init
loop-i-init g c = slots_none _ _ c.requires.0

pub flag_of-requires : goal.flag_of-requires
flag_of-requires g c =
    let a = c.args in
    let k = 2 * c.loop-i.i in
    values_good (g.B.Broadening.shape a.of) a.x a.y a.leg.now k c.requires.1 c.requires.2 c.requires.3 (c.requires.4 k (omega arith))
    (record { one = (pair_at c.two-a.ensures).0; two = (pair_at c.two-b.ensures).0; three = (pair_at c.two-c.ensures).0 })

pub flag_of-requires-in-loop-i : goal.flag_of-requires-in-loop-i
flag_of-requires-in-loop-i g c =
    let a = c.args in
    let k = 2 * c.loop-i.i + 1 in
    values_good (g.B.Broadening.shape a.of) a.x a.y a.leg.now k c.requires.1 c.requires.2 c.requires.3 (c.requires.4 k (omega arith))
    (record { one = (pair_at c.two-a.ensures).1; two = (pair_at c.two-b.ensures).1; three = (pair_at c.two-c.ensures).1 })

pub loop-i-preserved : goal.loop-i-preserved
loop-i-preserved g c =
    let a = c.args in
    slots_at _ _
    (row_two (g.B.Broadening.shape a.of) a.x a.y a.leg.now c.loop-i.invariant (omega arith)
    (record { one = (pair_at c.two-a.ensures).0; two = (pair_at c.two-b.ensures).0; three = (pair_at c.two-c.ensures).0 })
    (record { one = (pair_at c.two-a.ensures).1; two = (pair_at c.two-b.ensures).1; three = (pair_at c.two-c.ensures).1 })
    refl refl (rw (c.flag_of.ensures, c.flag_of-in-loop-i.ensures) refl))
    (omega arith)

pub flag_of-requires-then-n-eq1 : goal.flag_of-requires-then-n-eq1
flag_of-requires-then-n-eq1 g c =
    let a = c.args in
    let k = length a.leg.now - 1 in
    values_good (g.B.Broadening.shape a.of) a.x a.y a.leg.now k c.requires.1 c.requires.2 c.requires.3 (c.requires.4 k (omega arith))
    (record { one = c.at-a.ensures; two = (pair_at c.two-b-then-n-eq1.ensures).0; three = (pair_at c.two-b-then-n-eq1.ensures).1 })

pub returns-then-n-eq1 : goal.returns-then-n-eq1
returns-then-n-eq1 g c =
    let a = c.args in
    slots_all _ _
    (row_one (g.B.Broadening.shape a.of) a.x a.y a.leg.now (slots_at _ _ c.loop-i.invariant (omega arith)) (omega arith)
    (record { one = c.at-a.ensures; two = (pair_at c.two-b-then-n-eq1.ensures).0; three = (pair_at c.two-b-then-n-eq1.ensures).1 })
    refl refl (rw c.flag_of-then-n-eq1.ensures refl))
    (omega arith)
