-- The digits are those of the bits, and the line feed follows them.
use Rattle.std.proofs.Common.{ℕ, List, rules, arith, ap, length, length-append}
use Rattle.text.specs.Lines.{bits_line}
use Rattle.text.proofs.Laws.{put_same, put_then}
use Rattle.text.proofs.Numbers.{bits_digits}
use Rattle.text.proofs.number.put_bits.Goals as goal

pub put-requires : goal.put-requires
unfolding bits_line
put-requires g c =
    let n = c.bits_of in
    let h = c.hex-k in
    let e = ap length (bits_digits _ h.new.out _ h.result n.ensures.0 (omega arith) h.ensures.len h.ensures.digits) in
    (search rules, omega arith)

pub push-requires : goal.push-requires
unfolding bits_line
push-requires g c =
    let n = c.bits_of in
    let h = c.hex-k in
    let e = ap length (bits_digits _ h.new.out _ h.result n.ensures.0 (omega arith) h.ensures.len h.ensures.digits) in
    (search rules, omega (arith, simp length-append at (ap {A = List ℕ} {B = ℕ} length c.put.ensures)))

pub returns : goal.returns
unfolding bits_line
returns g c =
    let n = c.bits_of in
    let h = c.hex-k in
    put_then _ _ _ _ _ (put_same _ _ _ _ (bits_digits _ h.new.out _ h.result n.ensures.0 (omega arith) h.ensures.len h.ensures.digits) c.put.ensures) c.push.ensures.items
