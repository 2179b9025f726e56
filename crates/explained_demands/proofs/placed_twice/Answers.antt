-- `explained_demands::placed_twice` meets its contract: both outcomes are what the contract of explain_place says, which is one.
use Rattle.explained_demands.proofs.Outcomes.{placed_only, placed_fresh}
use Rattle.explained_demands.proofs.placed_twice.Goals as goal

pub returns : goal.returns
returns c =
    let p = c.explain_place-first.ensures in
    let q = c.explain_place-second.ensures in
    record { only = λ t s. placed_only _ _ _ _ _ _ _ _ _ _ p q t s; fresh = λ w v k l. placed_fresh _ _ _ _ _ _ _ _ _ _ p q w v k l }
