-- `tables::tags::id_follows` meets its contract: there is no row yet, or the id of the last one tells.
use Rattle.tables.proofs.RowsSoFar.{follows_none, follows_next, follows_unknown, follows_not}
use Rattle.tables.proofs.tags.id_follows.Goals as goal

pub returns-then-rows-eq0 : goal.returns-then-rows-eq0
returns-then-rows-eq0 c file = follows_none file c.args.sheet.now c.args.place c.args.rows c.if-rows-eq0.true c.args.id1

pub returns-then-id1-last : goal.returns-then-id1-last
returns-then-id1-last c file = follows_next file c.args.sheet.now c.args.place c.args.rows c.if-rows-eq0.false c.args.id1 c.if-id1-last.true

pub returns-then-last-eq0 : goal.returns-then-last-eq0
returns-then-last-eq0 c file = follows_unknown file c.args.sheet.now c.args.place c.args.rows c.if-rows-eq0.false c.args.id1 c.if-id1-last.false c.if-last-eq0.true

pub returns : goal.returns
returns c file = follows_not file c.args.sheet.now c.args.place c.args.rows c.if-rows-eq0.false c.args.id1 c.if-id1-last.false c.if-last-eq0.false
