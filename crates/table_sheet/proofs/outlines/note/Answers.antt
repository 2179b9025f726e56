-- `table_sheet::outlines::note` meets its contract.
use Prim.Native.Nat.{ℕ}
use mathlib.Core.Path.{ap}
use lib.ListN.{set}
use Rattle.table_sheet.proofs.outlines.note.Goals as goal

pub returns : goal.returns
returns c = ap (λ (place : ℕ). set c.args.outlines.now place 1) c.place_of-place.ensures.0
