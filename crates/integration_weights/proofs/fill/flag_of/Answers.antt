-- By the sum.
use Rattle.integration_weights.proofs.ValueLaws.{flag_none, flag_set}
use Rattle.integration_weights.proofs.fill.flag_of.Goals as goal

pub returns-then-a-b : goal.returns-then-a-b
returns-then-a-b c = let p = c.requires in flag_none _ _ _ p.0 p.1 p.2 c.if-a-b.true

pub returns : goal.returns
returns c = let p = c.requires in flag_set _ _ _ p.0 p.1 p.2 c.if-a-b.false
