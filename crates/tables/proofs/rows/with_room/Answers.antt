-- `tables::rows::with_room` meets its contract: by how many rows there are.
use borrow.Author.Tests.{lt-ltb, le-ltb}
use native.Mathlib.Omega.{arith}
use mathlib.Core.Path.{sym, ◌∙◌}
use lib.ListN.{length}
use Rattle.tables.proofs.Asked.{same_fault, holds, breaks, none_left}
use Rattle.tables.proofs.rows.with_room.Goals as goal

pub returns-then-rows-ge-ROW_LIMIT : goal.returns-then-rows-ge-ROW_LIMIT
returns-then-rows-ge-ROW_LIMIT c rs e = same_fault c.line_fault.ensures ∙ sym (breaks _ _ _ (le-ltb (length rs) 256 (omega (arith, e, c.if-rows-ge-ROW_LIMIT.true))))

pub returns : goal.returns
returns c rs e = sym (holds _ _ _ (lt-ltb (length rs) 256 (omega (arith, e, c.if-rows-ge-ROW_LIMIT.false))) ∙ none_left _)
