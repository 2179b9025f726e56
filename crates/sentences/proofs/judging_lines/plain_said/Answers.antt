use Rattle.sentences.proofs.judging_lines.plain_said.Goals as goal

pub returns : goal.returns
returns c = rw (c.column_span-tag.ensures, c.column_span-morphology.ensures, c.column_span-edge.ensures)
