-- `opened_demands::opened_twice` meets its contract: both outcomes are what the opening's contract says, which is one.
use mathlib.Core.Path.{ap}
use Rattle.opened_demands.proofs.Outcomes.{as_left, opened_only, opened_fresh}
use Rattle.opened_demands.proofs.opened_twice.Goals as goal

pub returns : goal.returns
returns c =
    let p = ap as_left c.open_flat-first.ensures.0 in
    let q = ap as_left c.open_flat-second.ensures.0 in
    record { only = λ t s h e. opened_only _ _ _ _ _ _ _ _ _ _ _ _ p q t s h e; fresh = λ fits k l. opened_fresh _ _ _ _ _ _ _ _ _ _ _ _ p q fits k l }
