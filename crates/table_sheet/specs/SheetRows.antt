-- The table sheet read back. Document 01, "The sheets": seven counts (0 absent, else rows + 1), then for each table 256
-- rows of 6: id + 1, start and length of the first text, of the second, flag.
use Rattle.std.specs.Prelude.{ℕ, zero, suc, ◌+◌, List, [], ◌∷◌, map, take, drop, get_or, Option, None, Some}
use Rattle.rules.specs.Lists.{counting}
use Rattle.rules.specs.Texts.{Text}
use Rattle.rules.specs.Tables.{Row, Tables}
use Rattle.rules.specs.Sheets.{table_count, row_width, row_place}

-- the text of a file that has this start and this length
abbrev pub text_at : List ℕ → ℕ → ℕ → Text
text_at file start len = record { start = start; bytes = take len (drop start file) }

-- the row whose numbers stand from a place on
abbrev pub row_at : List ℕ → List ℕ → ℕ → Row
row_at file sheet at =
    record {
      id1 = get_or sheet at 0;
      first = text_at file (get_or sheet (at + 1) 0) (get_or sheet (at + 2) 0);
      second = text_at file (get_or sheet (at + 3) 0) (get_or sheet (at + 4) 0);
      flag = get_or sheet (at + 5) 0;
    }

-- as many rows as count, from a place on
unfoldable pub rows_from : List ℕ → List ℕ → ℕ → ℕ → List Row
rows_from file sheet at zero = []
rows_from file sheet at (suc count) = row_at file sheet at ∷ rows_from file sheet (at + row_width) count

-- the table that has this count and its rows from a place on
abbrev pub counted : List ℕ → List ℕ → ℕ → ℕ → Option (List Row)
counted file sheet at zero = None
counted file sheet at (suc rows) = Some (rows_from file sheet at rows)

abbrev pub table_in : List ℕ → List ℕ → ℕ → Option (List Row)
table_in file sheet n = counted file sheet (row_place n 0) (get_or sheet n 0)

unfoldable pub tables_in : List ℕ → List ℕ → Tables
tables_in file sheet = map (table_in file sheet) (counting 0 table_count)
