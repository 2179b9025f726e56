-- `borders::index_across` meets its contract: both outcomes are what the contracts of index and hraunlik_index say, which is one.
use Rattle.indexed_demands.proofs.Entries.{indexed_only}
use Rattle.borders.proofs.index_across.Goals as goal

pub returns : goal.returns
returns c t s e = indexed_only _ _ _ _ _ _ _ _ _ c.index-first.ensures c.hraunlik_index-refusal.ensures t s e
