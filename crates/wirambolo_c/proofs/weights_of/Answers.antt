-- Two choices.
use mathlib.Core.Path.{◌∙◌}
use Rattle.phonon.specs.declared.Weights.TheVariants.{PerSlot, AtFrequencyPoint}
use Rattle.wirambolo_c.specs.Foreign.{weights_of}
use Rattle.wirambolo_c.proofs.Laws.{of_two}
use Rattle.wirambolo_c.proofs.weights_of.Goals as goal

pub returns : goal.returns
unfolding weights_of
returns c = c.choice.ensures ∙ of_two PerSlot AtFrequencyPoint c.args.x
