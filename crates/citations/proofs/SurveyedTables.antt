-- The tables that a survey leaves, of any file: they have room on the sheet and stand in the file, so the sheet can be looked up
-- and tells them.
use Prim.Native.Nat.{ℕ}
use mathlib.Core.Path.{◌≡◌}
use Rattle.std.specs.Prelude.{Option}
use mathlib.Core.List.{List}
use Rattle.rules.specs.Lists.{Each}
use Rattle.rules.specs.Texts.{Text}
use Rattle.rules.specs.Tables.{Row, Tables, rows_of}
use Rattle.rules.specs.Sheets.{table_sheet}
use Rattle.rules.specs.Survey.{survey_of}
use Rattle.rules.specs.Places.{LiesIn, RowLies}
use Rattle.rules.proofs.EachElement.{each_then}
use Rattle.rules.proofs.LiesThere.{lies_there}
use Rattle.rules.proofs.LiesInside.{lies_inside}
use Rattle.rules.proofs.LaidOut.{tables_few}
use Rattle.table_sheet.specs.Standing.{TablesHaveRoom, Stands, RowStands, TableStands, TablesStand}
use Rattle.table_sheet.specs.SheetRows.{tables_in}
use Rattle.table_sheet.proofs.ReadBack.{tables_read}
use Rattle.citations.specs.Tabled.{Tabled}
use Rattle.citations.proofs.TabledSheets.{tabled}

stands : (file : List ℕ) (t : Text) → LiesIn file t → Stands file t
stands file t l = record { inside = lies_inside file t l; found = l.found }

row_stands : (file : List ℕ) (r : Row) → RowLies file r → RowStands file r
row_stands file r l = record { first = stands file r.first l.first; second = stands file r.second l.second }

-- ---- any file

module _ (file : List ℕ) where
  abbrev ts : Tables
  ts = (survey_of file).tables

  pub have_room : TablesHaveRoom ts
  have_room = record { seven = (tables_few file).seven; room = (tables_few file).few }

  all_stand : TablesStand file ts
  all_stand =
      each_then (λ (t : Option (List Row)). Each (RowLies file) (rows_of t)) (TableStands file)
      (λ t l. each_then (RowLies file) (RowStands file) (row_stands file) (rows_of t) l) ts (lies_there file).tables

  pub sheet_tabled : Tabled file (table_sheet ts)
  sheet_tabled = tabled ts have_room file all_stand

  pub tables_back : tables_in file (table_sheet ts) ≡ ts
  tables_back = tables_read file ts have_room all_stand
