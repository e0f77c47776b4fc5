-- Each number changed: those below e are.
use mathlib.Core.Path.{ap, ◌∙◌}
use native.Mathlib.Omega.{arith}
use borrow.Author.Rules.{rules}
use Rattle.planes.proofs.SplitLaws.{split_step, split_next}
use Rattle.real_to_reciprocal.proofs.sums.change_each.Goals as goal

pub loop-e-preserved : goal.loop-e-preserved
loop-e-preserved g c =
    let n = c.loop-e.e in (
      omega arith,
      λ h a. let w = c.loop-e.invariant.1 h a in
          split_step _ w c.loop-e-test.true (search rules) c.put_split.ensures
          (a n _ _ c.loop-e-test.true c.f-z.ensures ∙ ap (h n) (c.get_split.ensures ∙ split_next w n (omega arith) c.loop-e-test.true)),
    )
