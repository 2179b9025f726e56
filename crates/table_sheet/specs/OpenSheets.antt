-- The table sheet while a table is being read. Document 01, "The sheets".
use Rattle.std.specs.Prelude.{ℕ, List, ◌++◌, map, set}
use Rattle.rules.specs.Lists.{joined}
use Rattle.rules.specs.Tables.{Row, Tables, rows_of}
use Rattle.rules.specs.Sheets.{count, rows_room}

-- these counts, and behind them the rows of each table in its room
unfoldable pub sheet_of : List ℕ → List (List Row) → List ℕ
sheet_of counts tables = counts ++ joined (map rows_room tables)

-- table n has these rows so far, and still counts as absent
unfoldable pub open_sheet : Tables → ℕ → List Row → List ℕ
unfolding sheet_of
open_sheet ts n rs = sheet_of (map count ts) (set (map rows_of ts) n rs)
