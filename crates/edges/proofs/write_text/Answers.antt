-- `edges::write_text` meets its contract: the plain numbers, as many records of them as the answer fills, and the list as it was
-- behind these.
use Rattle.edges.proofs.Records.{few_filled, filled_within}
use Rattle.edges.proofs.WritingPromised.{other_length_write_text, listed_write_text}
use Rattle.edges.proofs.write_text.Goals as goal

pub returns-then-edges-ne-EDGE_LIMIT : goal.returns-then-edges-ne-EDGE_LIMIT
returns-then-edges-ne-EDGE_LIMIT c = other_length_write_text _ _ _ _ _ c.args.edges.now c.if-edges-ne-EDGE_LIMIT.true

pub fill-requires : goal.fill-requires
fill-requires c = (
  filled_within _ c.write_numbers-answer.result.refusal _ c.records_filled-count.ensures c.if-edges-ne-EDGE_LIMIT.false,
  few_filled _ c.write_numbers-answer.result.refusal c.records_filled-count.ensures,
)

pub returns : goal.returns
returns c =
    listed_write_text _ _ _ _ _ c.args.edges.now c.write_numbers-answer.result c.records_filled-count.result
    c.write_numbers-answer.new.output c.write_numbers-answer.new.tables c.write_numbers-answer.new.seen c.write_numbers-answer.new.sheet c.write_numbers-answer.new.numbers c.fill.new.edges c.if-edges-ne-EDGE_LIMIT.false
    c.write_numbers-answer.ensures c.records_filled-count.ensures c.fill.ensures
