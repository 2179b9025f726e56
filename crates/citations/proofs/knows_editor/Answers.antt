-- `citations::knows_editor` meets its contract: the two ids that need no row, else a row.
use borrow.Author.Tests.{lt-ltb, le-ltb}
use Rattle.citations.proofs.knows_editor.Goals as goal

pub returns-then-id1-lt2 : goal.returns-then-id1-lt2
returns-then-id1-lt2 c file = rw (lt-ltb c.args.id1 2 c.if-id1-lt2.true)

pub returns : goal.returns
returns c file = rw (le-ltb c.args.id1 2 c.if-id1-lt2.false) (c.has_row.ensures file)
