-- `edges::open_sentence` meets its contract: the plain numbers, as many records of them as the answer fills, and the list as it was
-- behind these.
use Rattle.edges.proofs.Records.{few_filled, filled_within}
use Rattle.edges.proofs.Promised.{other_length_open_sentence, listed_open_sentence}
use Rattle.edges.proofs.open_sentence.Goals as goal

pub returns-then-edges-ne-EDGE_LIMIT : goal.returns-then-edges-ne-EDGE_LIMIT
returns-then-edges-ne-EDGE_LIMIT c = other_length_open_sentence _ _ _ _ _ c.args.edges.now c.if-edges-ne-EDGE_LIMIT.true

pub fill-requires : goal.fill-requires
fill-requires c = (
  filled_within _ c.open_numbers-answer.result _ c.records_filled-count.ensures c.if-edges-ne-EDGE_LIMIT.false,
  few_filled _ c.open_numbers-answer.result c.records_filled-count.ensures,
)

pub returns : goal.returns
returns c =
    listed_open_sentence _ _ _ _ _ c.args.edges.now c.open_numbers-answer.result c.records_filled-count.result
    c.open_numbers-answer.new.tables c.open_numbers-answer.new.seen c.open_numbers-answer.new.sheet c.open_numbers-answer.new.numbers c.fill.new.edges c.if-edges-ne-EDGE_LIMIT.false
    c.open_numbers-answer.ensures c.records_filled-count.ensures c.fill.ensures
