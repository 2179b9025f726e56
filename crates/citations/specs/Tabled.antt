-- What a look-up asks of the table sheet. Document 01, "The sheets": seven counts (0 absent, else rows + 1), then for each
-- table 256 rows of 6. A sheet that counts no rows may end behind the counts.
use Rattle.std.specs.Prelude.{ℕ, suc, ◌-◌, ◌≤◌, ◌<◌, ◌≡◌, List, length, get_or}
use Rattle.rules.specs.Tables.{Row, table, rows_of}
use Rattle.rules.specs.Sheets.{table_count, row_place}
use Rattle.table_sheet.specs.SheetRows.{tables_in}
use Rattle.table_sheet.specs.Standing.{Inside}

-- the rows that are counted lie in the sheet
pub record Counted (sheet : List ℕ) : Type 0 where
  pub seven : table_count ≤ length sheet
  pub room : (n rows : ℕ) → n < table_count → get_or sheet n 0 ≡ suc rows → row_place n rows ≤ length sheet

-- the texts of the rows lie in the file
pub record Tabled (file sheet : List ℕ) : Type 0 where
  pub counted : Counted sheet
  pub inside : (n : ℕ) → n < table_count → Inside file sheet (row_place n 0) (get_or sheet n 0 - 1)

-- the rows of a table, none if it is absent
abbrev pub rows_in : List ℕ → List ℕ → ℕ → List Row
rows_in file sheet n = rows_of (table n (tables_in file sheet))
