-- `indexed_demands::surveyed_twice` meets its contract: both outcomes are what the survey's contract says, which is one.
use mathlib.Core.Path.{refl}
use Rattle.demands.proofs.Outcomes.{only_outcome, old_never_shows}
use Rattle.indexed_demands.proofs.surveyed_twice.Goals as goal

pub returns : goal.returns
returns c =
    record {
      only = λ t s. only_outcome _ _ c.survey-first.ensures c.survey-second.ensures refl t s;
      fresh = λ k l. old_never_shows _ _ c.survey-first.ensures c.survey-second.ensures refl k l;
    }
