-- `opened_demands::climbing_at` meets its contract, by what the opening's says.
use mathlib.Core.Path.{ap}
use Rattle.opened_demands.proofs.Outcomes.{as_there}
use Rattle.opened_demands.proofs.AsRules.{at_place}
use Rattle.opened_demands.proofs.SheetsClimb.{climbs_at_place}
use Rattle.opened_demands.proofs.climbing_at.Goals as goal

pub returns : goal.returns
returns c =
    let p = ap as_there c.open_flat_at.ensures.0 in
    record { climbs = λ z. climbs_at_place _ _ _ _ _ p z; whole = at_place _ _ _ _ _ p }
