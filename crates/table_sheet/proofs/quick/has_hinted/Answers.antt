-- `table_sheet::quick::has_hinted` meets its contract: short and long tags do, of others it says nothing.
use Rattle.table_sheet.proofs.quick.has_hinted.Goals as goal

pub returns-then-len-ge8 : goal.returns-then-len-ge8
returns-then-len-ge8 c = c.has_long.ensures

pub returns : goal.returns
returns c = c.has_short.ensures
