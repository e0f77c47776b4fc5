-- The count is tested; the length of the triplets decides.
use mathlib.Core.Path.{refl, sym, ◌∙◌}
use Rattle.phonon.proofs.Lowest.{pass}
use Rattle.checks.proofs.AnswerLaws.{of_one}
use Rattle.checks.proofs.groups.check_count.Goals as goal

pub returns : goal.returns
returns c = of_one _ refl c.require.ensures ∙ sym (pass _ _ c.requires)
