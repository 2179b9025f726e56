-- `edges::open_at` meets its contract: the plain numbers, as many records of them as the answer fills, and the list as it was
-- behind these.
use Rattle.edges.proofs.Records.{few_filled, filled_within}
use Rattle.edges.proofs.Promised.{other_length_open_at, listed_open_at}
use Rattle.edges.proofs.open_at.Goals as goal

pub returns-then-edges-ne-EDGE_LIMIT : goal.returns-then-edges-ne-EDGE_LIMIT
returns-then-edges-ne-EDGE_LIMIT c = other_length_open_at _ _ _ c.args.edges.now c.if-edges-ne-EDGE_LIMIT.true

pub fill-requires : goal.fill-requires
fill-requires c = (
  filled_within _ c.open_numbers_at-answer.result _ c.records_filled-count.ensures c.if-edges-ne-EDGE_LIMIT.false,
  few_filled _ c.open_numbers_at-answer.result c.records_filled-count.ensures,
)

pub returns : goal.returns
returns c =
    listed_open_at _ _ _ c.args.edges.now c.open_numbers_at-answer.result c.records_filled-count.result
    c.open_numbers_at-answer.new.sheet c.open_numbers_at-answer.new.numbers c.fill.new.edges c.if-edges-ne-EDGE_LIMIT.false
    c.open_numbers_at-answer.ensures c.records_filled-count.ensures c.fill.ensures
