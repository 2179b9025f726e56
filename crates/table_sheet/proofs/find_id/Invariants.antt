-- `table_sheet::find_id` meets its contract: from here on the rows give the answer of all the rows asked for.
use Prim.Native.Nat.{ℕ, ◌+◌, ◌-◌, ◌*◌}
use mathlib.Core.Path.{◌≡◌}
use mathlib.Core.List.{List}
use Rattle.rules.specs.Sheets.{row_width}
use Rattle.table_sheet.specs.SheetRows.{rows_from}
use Rattle.table_sheet.specs.LookUps.{id_from, id_found}
use Rattle.table_sheet.proofs.find_id.Given as goal

abbrev pub invariant-loop-row : goal.invariant-loop-row
invariant-loop-row l =
    (file : List ℕ) → id_from l.row l.id1 (rows_from file l.sheet (l.place + row_width * l.row) (l.rows - l.row)) ≡ id_found l.id1 (rows_from file l.sheet l.place l.rows)
