-- What was lent of `to` holds the first n numbers.
use Rattle.std.proofs.Common.{◌≡◌, ℕ, ◌+◌, List, ◌++◌, sym, ap, ◌∙◌, arith, take, drop, length}
use lib.Ieee.{Float}
use lib.Seq.{length-take-le}
use Rattle.std.proofs.Math.Seq.{take-length}
use Rattle.std.proofs.lemmas.Slice.{put_mid-paste}
use Rattle.key_cases.proofs.copy.Goals as goal

pub returns : goal.returns
returns c =
    let a = c.args in
    let s : List Float = take a.n a.from.now in
    let size : length s ≡ a.n = length-take-le a.n a.from.now c.requires.0 in
    let whole : take a.n s ≡ s = ap (λ (k : ℕ). take k s) (sym size) ∙ take-length s in
    put_mid-paste a.at _ a.to.now _ s a.n c.copy_from_slice.ensures.after (omega arith) (sym size)
    ∙ ap (λ (r : List Float). take a.at a.to.now ++ r ++ drop (a.at + a.n) a.to.now) whole
