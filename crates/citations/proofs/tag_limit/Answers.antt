-- `citations::tag_limit` meets its contract: by whether the table is that of morphology.
use borrow.Author.Tests.{eq-eqb, ne_eqb}
use Rattle.citations.proofs.tag_limit.Goals as goal

pub returns-then-table-eq-MORPH_TAGS : goal.returns-then-table-eq-MORPH_TAGS
returns-then-table-eq-MORPH_TAGS c = rw (eq-eqb c.args.table 3 c.if-table-eq-MORPH_TAGS.true)

pub returns-else-table-eq-MORPH_TAGS : goal.returns-else-table-eq-MORPH_TAGS
returns-else-table-eq-MORPH_TAGS c = rw (ne_eqb c.args.table 3 c.if-table-eq-MORPH_TAGS.false)
