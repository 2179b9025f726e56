-- `table_sheet::quick::has_tag` meets its contract: either row will do.
use Rattle.table_sheet.proofs.quick.has_tag.Goals as goal

pub returns-then-has_hinted : goal.returns-then-has_hinted
returns-then-has_hinted c e = c.has_hinted.ensures c.if-has_hinted.true

pub returns : goal.returns
returns c = c.has_by_halves.ensures
