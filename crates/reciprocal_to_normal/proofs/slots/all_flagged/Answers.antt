-- The slots below j are flagged.
use mathlib.Core.Path.{sym, ap, ◌∙◌}
use Rattle.phonon.specs.Number.{flagged}
use Rattle.phonon.specs.Sets.{slot}
use Rattle.phonon.proofs.Accepted.{every_none, every_next, every_bad}
use native.Mathlib.Omega.{arith}
use Rattle.reciprocal_to_normal.proofs.slots.all_flagged.Goals as goal

pub loop-j-init : goal.loop-j-init
loop-j-init c = (omega arith, every_none _)

pub returns-then-not-is_flagged : goal.returns-then-not-is_flagged
returns-then-not-is_flagged c =
    let a = c.args in
    sym (every_bad (λ x. flagged a.flags.now (slot a.c.bands a.c.b x a.c.k)) a.c.bands c.loop-j.j c.loop-j-test.true (ap (flagged a.flags.now) (sym c.slot.ensures) ∙ sym c.is_flagged.ensures ∙ c.if-not-is_flagged.true))

pub loop-j-preserved : goal.loop-j-preserved
loop-j-preserved c =
    let a = c.args in
    (omega arith, every_next (λ x. flagged a.flags.now (slot a.c.bands a.c.b x a.c.k)) c.loop-j.j c.loop-j.invariant.1 (ap (flagged a.flags.now) (sym c.slot.ensures) ∙ sym c.is_flagged.ensures ∙ c.if-not-is_flagged.false))
