-- The columns of each k in turn.
use Rattle.std.proofs.Common.{◌≡◌, arith, rules}
use Rattle.text.specs.Lines.{column_lines, first_band_lines}
use Rattle.text.proofs.Laws.{room_line}
use Rattle.text.proofs.slots.Slots.put_first_band.Goals as goal

pub put_column-requires : goal.put_column-requires
unfolding first_band_lines
put_column-requires g c =
    let s = c.args.self.now in
    (search rules, (room_line s.bands (λ x. column_lines s.bands s.flags.now s.strengths.now c.args.b x) c.loop-k.k _ _ _ (omega arith) c.loop-k.invariant c.requires.room, search rules))

pub returns : goal.returns
unfolding first_band_lines
returns g c =
    let all : c.loop-k.k ≡ c.args.self.now.bands = omega arith in
    rw all at c.loop-k.invariant
