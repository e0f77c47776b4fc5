-- Three choices.
use mathlib.Core.Path.{◌∙◌}
use Rattle.integration_weights.specs.declared.Shape.TheVariants.{Gaussian, Lorentzian, Box}
use Rattle.wirambolo_c.specs.Foreign.{shape_of}
use Rattle.wirambolo_c.proofs.Laws.{of_three}
use Rattle.wirambolo_c.proofs.shape_of.Goals as goal

pub returns : goal.returns
unfolding shape_of
returns c = let w = c.args.width in c.choice.ensures ∙ of_three (Gaussian w) (Lorentzian w) (Box w) c.args.x
