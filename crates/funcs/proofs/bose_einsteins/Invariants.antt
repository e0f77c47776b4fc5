-- The first numbers are ratios, and then occupations.
use Rattle.phonon.specs.Number.{◌⊖◌, ◌⊘◌, f1, at}
use Rattle.funcs.proofs.Changed.{Changed}
use Rattle.funcs.proofs.bose_einsteins.Given as goal

abbrev pub invariant-loop-y : goal.invariant-loop-y
invariant-loop-y g l = Changed (λ j. at l.fn.x j ⊘ l.temperature) l.y-index l.fn.x l.y-items

abbrev pub invariant-loop-y-2 : goal.invariant-loop-y-2
invariant-loop-y-2 g l = Changed (λ j. f1 ⊘ (at l.initial.y-items j ⊖ f1)) l.y-index l.initial.y-items l.y-items
