use borrow.Author.Tests.{le-ltb, lt-ltb}
use Rattle.nodes.proofs.has_room.Goals as goal

pub returns-then-words-ge-WORD_LIMIT : goal.returns-then-words-ge-WORD_LIMIT
returns-then-words-ge-WORD_LIMIT c = rw (le-ltb _ _ c.if-words-ge-WORD_LIMIT.true)

pub returns : goal.returns
returns c = rw (lt-ltb _ _ c.if-words-ge-WORD_LIMIT.false, c.count_pairs.ensures)
