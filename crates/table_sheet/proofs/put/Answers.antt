-- `table_sheet::put` meets its contract.
use native.Mathlib.Omega.{arith}
use Rattle.table_sheet.proofs.Parts.{part_splice}
use Rattle.table_sheet.proofs.put.Goals as goal

pub returns : goal.returns
returns c = part_splice c.args.place _ c.args.sheet.now _ c.args.numbers.now c.copy_from_slice.ensures.after (omega arith)
