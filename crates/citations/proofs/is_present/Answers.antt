-- `citations::is_present` meets its contract: by the table's count.
use mathlib.Core.Path.{sym}
use Rattle.citations.proofs.TablesThere.{present_in}
use Rattle.citations.proofs.is_present.Goals as goal

pub returns : goal.returns
returns c file = sym (present_in file c.args.sheet.now c.args.table c.requires.1)
