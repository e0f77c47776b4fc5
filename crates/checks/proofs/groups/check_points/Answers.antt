-- By the one test.
use Rattle.checks.proofs.AnswerLaws.{of_one}
use Rattle.checks.proofs.groups.check_points.Goals as goal

pub returns : goal.returns
returns c = of_one _ c.points_ok.ensures c.require.ensures
