-- `table_sheet::seek_tag` meets its contract: the rows from here on have the tag exactly if all the rows asked for have it.
use Prim.Native.Nat.{◌+◌, ◌-◌, ◌*◌}
use mathlib.Core.Path.{◌≡◌}
use Rattle.rules.specs.Sheets.{row_width}
use Rattle.table_sheet.specs.SheetRows.{rows_from}
use Rattle.table_sheet.specs.LookUps.{tag_among}
use Rattle.table_sheet.proofs.seek_tag.Given as goal

abbrev pub invariant-loop-row : goal.invariant-loop-row
invariant-loop-row l =
    tag_among l.tag (rows_from l.file l.sheet (l.place + row_width * l.row) (l.rows - l.row)) ≡ tag_among l.tag (rows_from l.file l.sheet l.place l.rows)
