-- The planes of each b in turn.
use Rattle.std.proofs.Common.{◌≡◌, arith, rules}
use Rattle.text.specs.Lines.{first_band_lines, slots_text}
use Rattle.text.proofs.Laws.{room_line}
use Rattle.text.proofs.slots.Slots.put_all.Goals as goal

pub put_first_band-requires : goal.put_first_band-requires
unfolding slots_text
put_first_band-requires g c =
    let s = c.args.self.now in
    (search rules, (room_line s.first (λ x. first_band_lines s.bands s.flags.now s.strengths.now x) c.loop-b.b _ _ _ (omega arith) c.loop-b.invariant c.requires, search rules))

pub returns : goal.returns
unfolding slots_text
returns g c =
    let all : c.loop-b.b ≡ c.args.self.now.first = omega arith in
    rw all at c.loop-b.invariant
