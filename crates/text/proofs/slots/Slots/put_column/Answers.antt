-- The slots of each j in turn.
use Rattle.std.proofs.Common.{◌≡◌, arith, rules}
use Rattle.text.specs.Lines.{slot_lines, column_lines}
use Rattle.text.proofs.Laws.{room_line}
use Rattle.text.proofs.slots.Slots.put_column.Goals as goal

pub put_one-requires : goal.put_one-requires
unfolding column_lines
put_one-requires g c =
    let s = c.args.self.now in
    (search rules, (room_line s.bands (λ x. slot_lines s.bands s.flags.now s.strengths.now c.args.b x c.args.k) c.loop-j.j _ _ _ (omega arith) c.loop-j.invariant c.requires.room, search rules))

pub returns : goal.returns
unfolding column_lines
returns g c =
    let all : c.loop-j.j ≡ c.args.self.now.bands = omega arith in
    rw all at c.loop-j.invariant
