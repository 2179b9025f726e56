-- `citations::knows_origin` meets its contract: the sheet holds one more than an origin's id.
use native.Mathlib.Numerals.{add-one}
use Rattle.citations.proofs.knows_origin.Goals as goal

pub returns : goal.returns
returns c file = rw add-one at (c.has_row.ensures file)
