-- `indexed_demands::indexed_twice` meets its contract: both outcomes are what the index's contract says, which is one.
use Rattle.indexed_demands.proofs.Entries.{indexed_only, indexed_fresh}
use Rattle.indexed_demands.proofs.indexed_twice.Goals as goal

pub returns : goal.returns
returns c =
    let p = c.index-first.ensures in
    let q = c.index-second.ensures in
    record { only = λ t s e. indexed_only _ _ _ _ _ _ _ _ _ p q t s e; fresh = λ fits k l. indexed_fresh _ _ _ _ _ _ _ _ _ p q fits k l }
