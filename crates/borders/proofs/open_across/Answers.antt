-- `borders::open_across` meets its contract: both outcomes are what the contracts of open_flat and hraunlik_open say, which is one.
use mathlib.Core.Path.{ap}
use Rattle.opened_demands.proofs.Outcomes.{as_left, opened_only}
use Rattle.borders.proofs.open_across.Goals as goal

pub returns : goal.returns
returns c t s h e = opened_only _ _ _ _ _ _ _ _ _ _ _ _ (ap as_left c.open_flat-first.ensures.0) (ap as_left c.hraunlik_open-second.ensures) t s h e
