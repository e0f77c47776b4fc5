-- Two exponentials in a turn, and the last of an odd count alone.
use Rattle.std.proofs.Common.{rules, refl, arith}
use Rattle.phonon.specs.Exp as Exp
use Rattle.funcs.proofs.Changed.{changed_at, changed_whole}
use Rattle.funcs.proofs.exps.Goals as goal

pub loop-i-preserved : goal.loop-i-preserved
loop-i-preserved g c =
    let p = c.exp_two-p.ensures in
    changed_at refl (omega arith) (search rules) p.1 (changed_at refl refl (search rules) p.0 c.loop-i.invariant)

pub returns-then-this-eq1 : goal.returns-then-this-eq1
returns-then-this-eq1 g c = changed_whole Exp.exp c.args.x refl (search rules) (λ j h. refl) (changed_at (search rules) refl (search rules) c.exp.ensures c.loop-i.invariant)

pub returns-else-this-eq1 : goal.returns-else-this-eq1
returns-else-this-eq1 g c = changed_whole Exp.exp c.args.x refl (search rules) (λ j h. refl) c.loop-i.invariant
