-- `explained_demands::explained_twice` meets its contract: both outcomes are what the contract of explain says, which is one.
use Rattle.explained_demands.proofs.Outcomes.{part_only, part_fresh}
use Rattle.explained_demands.proofs.explained_twice.Goals as goal

pub returns : goal.returns
returns c =
    let p = c.explain-first.ensures in
    let q = c.explain-second.ensures in
    let r = c.same_text.ensures in
    record { only = λ t s. part_only _ _ _ _ _ _ _ _ _ _ _ _ _ _ _ _ _ r p q t s; fresh = λ w v k l. part_fresh _ _ _ _ _ _ _ _ _ _ _ _ _ _ _ _ _ r p q w v k l }
