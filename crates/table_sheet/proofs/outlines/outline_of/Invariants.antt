-- `table_sheet::outlines::outline_of` meets its contract: the outline from here on, with the number so far, is that of the
-- whole tag.
use Prim.Native.Nat.{◌<◌}
use mathlib.Core.Path.{◌≡◌}
use lib.ListN.{drop}
use Rattle.table_sheet.specs.Outlines.{outline_count, outline_from, outline_of}
use Rattle.table_sheet.proofs.outlines.outline_of.Given as goal

abbrev pub invariant-loop-b : goal.invariant-loop-b
invariant-loop-b l = (l.outline < outline_count) × (outline_from l.outline (drop l.b-index l.tag) ≡ outline_of l.tag)
