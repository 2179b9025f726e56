-- `borders::open_at_across` meets its contract: both outcomes are what the contracts of open_flat_at and hraunlik_open_at say, which is one.
use mathlib.Core.Path.{ap}
use Rattle.opened_demands.proofs.Outcomes.{as_there, opened_at_only}
use Rattle.borders.proofs.open_at_across.Goals as goal

pub returns : goal.returns
returns c h e = opened_at_only _ _ _ _ _ _ _ _ (ap as_there c.open_flat_at-first.ensures.0) (ap as_there c.hraunlik_open_at-second.ensures) h e
