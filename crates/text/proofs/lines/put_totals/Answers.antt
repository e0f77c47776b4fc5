-- The totals of each b in turn.
use Rattle.std.proofs.Common.{◌≡◌, arith, length, rules}
use Rattle.phonon.specs.Number.{at}
use Rattle.text.specs.Lines.{total_line, totals_text}
use Rattle.text.proofs.Laws.{room_line}
use Rattle.text.proofs.lines.put_totals.Goals as goal

pub put_total-requires : goal.put_total-requires
unfolding totals_text
put_total-requires g c =
    let t = c.args.totals.now in
    (search rules, room_line (length t) (λ k. total_line k (at t k)) c.loop-b.b _ _ _ (omega arith) c.loop-b.invariant c.requires)

pub returns : goal.returns
unfolding totals_text
returns g c =
    let all : c.loop-b.b ≡ length c.args.totals.now = omega arith in
    rw all at c.loop-b.invariant
