-- Each part has room where all have.
use Rattle.std.proofs.Common.{ℕ, List, rules, arith, ap, length, length-append}
use Rattle.text.specs.Lines.{accepted_text}
use Rattle.text.proofs.Lengths.{accepted_length}
use Rattle.text.proofs.lines.put_accepted.Goals as goal

pub put_bands-requires : goal.put_bands-requires
unfolding accepted_text
put_bands-requires g c =
    let s = c.args.slots.now in
    let h = c.requires in
    let room = simp length-append at (accepted_length s.first s.bands s.flags.now s.strengths.now h.0 h.1 c.args.totals.now h.2) in
    (search rules, omega (arith, h.3))

pub put_all-requires : goal.put_all-requires
unfolding accepted_text
put_all-requires g c =
    let s = c.args.slots.now in
    let h = c.requires in
    let room = simp length-append at (accepted_length s.first s.bands s.flags.now s.strengths.now h.0 h.1 c.args.totals.now h.2) in
    (search rules, omega (arith, h.3, simp length-append at (ap {A = List ℕ} {B = ℕ} length c.put_bands.ensures)))

pub put_totals-requires : goal.put_totals-requires
unfolding accepted_text
put_totals-requires g c =
    let s = c.args.slots.now in
    let h = c.requires in
    let room = simp length-append at (accepted_length s.first s.bands s.flags.now s.strengths.now h.0 h.1 c.args.totals.now h.2) in
    let bands = simp length-append at (ap {A = List ℕ} {B = ℕ} length c.put_bands.ensures) in
    (search rules, omega (arith, h.3, simp length-append at (ap {A = List ℕ} {B = ℕ} length c.put_all.ensures)))
