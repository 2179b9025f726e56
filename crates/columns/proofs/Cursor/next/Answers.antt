-- `columns::Cursor::next` meets its contract: the two skips come to the places where the first column starts and ends.
use mathlib.Core.Path.{sym}
use Rattle.columns.proofs.Steps.{comes_to_none, comes_to_one}
use Rattle.columns.proofs.Cursor.next.Goals as goal

pub returns-then-head-start : goal.returns-then-head-start
returns-then-head-start c = sym (comes_to_none _ _ _ c.skip_run-start.ensures c.if-head-start.true)

pub returns : goal.returns
returns c = sym (comes_to_one _ _ _ c.skip_run-start.ensures _ c.skip_run-end.ensures c.if-head-start.false)
