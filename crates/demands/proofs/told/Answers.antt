-- `demands::told` meets its contract, by what the survey's says.
use Rattle.demands.proofs.Accepted.{answered_by_survey}
use Rattle.demands.proofs.told.Goals as goal

pub returns : goal.returns
returns c = answered_by_survey _ c.survey.ensures
