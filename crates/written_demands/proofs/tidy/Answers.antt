-- `written_demands::tidy` meets its contract: the round trip, by what the survey's contract says.
use Rattle.written_demands.proofs.TidySurveyed.{tidy_by_survey}
use Rattle.written_demands.proofs.tidy.Goals as goal

pub returns : goal.returns
returns c = let promised = c.survey.ensures in record { alike = λ f e same r. tidy_by_survey f _ promised e same r; whole = promised }
