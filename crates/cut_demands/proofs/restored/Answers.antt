-- `cut_demands::restored` meets its contract: the cut rule, by what the survey's contract says.
use Rattle.cut_demands.proofs.CutSurveyed.{cut_by_survey}
use Rattle.cut_demands.proofs.restored.Goals as goal

pub returns : goal.returns
returns c = let promised = c.survey.ensures in record { first = λ f n x h k same r. cut_by_survey f n x h k _ promised same r; whole = promised }
