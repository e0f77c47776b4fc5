-- A slot that is not flagged has its line; a flagged one has none.
use Rattle.std.proofs.Common.{rules, sym, append-nil, eq-eqb}
use borrow.Author.Tests.{ne_eqb}
use Rattle.text.specs.Lines.{slot_lines}
use Rattle.text.proofs.slots.Slots.put_one.Goals as goal

pub put_slot-requires : goal.put_slot-requires
unfolding slot_lines
put_slot-requires g c = (search rules, rw (eq-eqb _ _ c.if-self-slot-eq0.true) at c.requires.room)

pub returns-then-self-slot-eq0 : goal.returns-then-self-slot-eq0
unfolding slot_lines
returns-then-self-slot-eq0 g c = rw (eq-eqb _ _ c.if-self-slot-eq0.true) c.put_slot.ensures

pub returns-else-self-slot-eq0 : goal.returns-else-self-slot-eq0
unfolding slot_lines
returns-else-self-slot-eq0 g c = rw (ne_eqb _ _ c.if-self-slot-eq0.false) (sym (append-nil _))
