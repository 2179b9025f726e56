-- The tables that a survey leaves, of any file: their sheet can be printed.
use Prim.Native.Nat.{ℕ, suc, ◌≤◌, ◌<◌}
use native.Mathlib.Omega.{arith}
use mathlib.Core.Path.{◌≡◌}
use Rattle.std.specs.Prelude.{Option, None, Some}
use mathlib.Core.List.{List}
use lib.ListN.{get_or}
use Rattle.rules.specs.Numbers.{row_limit}
use Rattle.rules.specs.Tables.{Row, Tables, table}
use Rattle.rules.specs.Sheets.{table_count, count, table_sheet}
use Rattle.rules.specs.Survey.{survey_of}
use Rattle.table_sheet.specs.Standing.{TableHasRoom}
use Rattle.rules.proofs.Rooms.{each_at}
use Rattle.table_sheet.proofs.OpenSheets.{length_table_sheet, count_of_table}
use Rattle.citations.proofs.SurveyedTables.{have_room, sheet_tabled}
use Rattle.table_text.specs.WholeSheets.{WholeSheet}

-- ---- room

count_bound : (t : Option (List Row)) → TableHasRoom t → count t ≤ suc row_limit
count_bound None h = omega arith
count_bound (Some rs) h = omega (arith, h)

-- ---- any file

module _ (file : List ℕ) where
  abbrev ts : Tables
  ts = (survey_of file).tables

  count_is : (n : ℕ) → n < table_count → get_or (table_sheet ts) n 0 ≡ count (table n ts)
  count_is n h = count_of_table ts n (omega (arith, (have_room file).seven))

  pub tables_told : WholeSheet file (table_sheet ts)
  tables_told =
      record {
        size = length_table_sheet ts (have_room file);
        counts = λ n h. rw (count_is n h) (count_bound (table n ts) (each_at TableHasRoom ts n None (have_room file).room (omega (arith, (have_room file).seven))));
        inside = (sheet_tabled file).inside;
      }
