-- `table_sheet::quick::has_length` meets its contract.
use borrow.Author.Tests.{eqb-true}
use Rattle.table_sheet.proofs.quick.has_length.Goals as goal

pub returns : goal.returns
returns c e = (c.if-rows-row.false, eqb-true _ _ e)
