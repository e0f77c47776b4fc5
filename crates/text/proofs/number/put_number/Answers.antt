-- The digits are the number's, and the byte follows them.
use Rattle.std.proofs.Common.{ℕ, List, rules, arith, ap, length, length-append}
use Rattle.text.specs.Lines.{number_then}
use Rattle.text.proofs.Laws.{put_same, put_then}
use Rattle.text.proofs.Numbers.{decimal_digits}
use Rattle.text.proofs.number.put_number.Goals as goal

pub put-requires : goal.put-requires
unfolding number_then
put-requires g c =
    let h = c.decimal-k in
    let e = ap length (decimal_digits h.new.out _ h.result (omega arith) h.ensures.len h.ensures.digits) in
    (search rules, omega (arith, simp length-append at c.requires))

pub push-requires : goal.push-requires
unfolding number_then
push-requires g c =
    let h = c.decimal-k in
    let e = ap length (decimal_digits h.new.out _ h.result (omega arith) h.ensures.len h.ensures.digits) in
    (search rules, omega (arith, simp length-append at c.requires, simp length-append at (ap {A = List ℕ} {B = ℕ} length c.put.ensures)))

pub returns : goal.returns
unfolding number_then
returns g c =
    let h = c.decimal-k in
    put_then _ _ _ _ _ (put_same _ _ _ _ (decimal_digits h.new.out _ h.result (omega arith) h.ensures.len h.ensures.digits) c.put.ensures) c.push.ensures.items
