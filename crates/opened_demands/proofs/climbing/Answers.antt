-- `opened_demands::climbing` meets its contract, by what the opening's says.
use mathlib.Core.Path.{ap}
use Rattle.opened_demands.proofs.Outcomes.{as_left}
use Rattle.opened_demands.proofs.AsRules.{by_number_lem}
use Rattle.opened_demands.proofs.SheetsClimb.{climbs_by_number}
use Rattle.opened_demands.proofs.climbing.Goals as goal

pub returns : goal.returns
returns c =
    let p = ap as_left c.open_flat.ensures.0 in
    record { climbs = λ z. climbs_by_number _ _ _ _ _ _ _ p z; whole = by_number_lem _ _ _ _ _ _ _ p }
