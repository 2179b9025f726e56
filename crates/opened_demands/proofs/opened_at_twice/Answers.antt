-- `opened_demands::opened_at_twice` meets its contract: both outcomes are what the opening's contract says, which is one.
use mathlib.Core.Path.{ap}
use Rattle.opened_demands.proofs.Outcomes.{as_there, opened_at_only, opened_at_fresh}
use Rattle.opened_demands.proofs.opened_at_twice.Goals as goal

pub returns : goal.returns
returns c =
    let p = ap as_there c.open_flat_at-first.ensures.0 in
    let q = ap as_there c.open_flat_at-second.ensures.0 in
    record { only = λ h e. opened_at_only _ _ _ _ _ _ _ _ p q h e; fresh = λ fits k l. opened_at_fresh _ _ _ _ _ _ _ _ p q fits k l }
