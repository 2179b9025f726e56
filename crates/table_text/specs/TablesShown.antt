-- The tables as they are printed from the table sheet. Document 01, "Tidy text".
use Rattle.std.specs.Prelude.{ℕ, zero, suc, ◌+◌, ◌*◌, List, [], ◌∷◌, ◌++◌, map}
use Rattle.rules.specs.Lists.{bytes, joined}
use Rattle.rules.specs.Numbers.{row_limit}
use Rattle.rules.specs.Sheets.{table_count, row_place}
use Rattle.rules.specs.Tidy.{keyword_line, table_name, row_line}
use Rattle.table_sheet.specs.SheetRows.{row_at}
use Rattle.printing.specs.Fields.{text_most}
use Rattle.table_text.specs.RowOrder.{row_order}

-- the lines of rows of a table
abbrev pub row_lines : List ℕ → List ℕ → ℕ → List ℕ → List ℕ
row_lines file sheet n ks = joined (map (λ (k : ℕ). row_line n (row_at file sheet (row_place n k))) ks)

-- a table that has this count
abbrev pub shown_table : List ℕ → List ℕ → ℕ → ℕ → List ℕ
shown_table file sheet n zero = []
shown_table file sheet n (suc rows) =
    keyword_line (bytes "#BOT" ∷ table_name n ∷ []) ++ row_lines file sheet n (row_order sheet n rows)
    ++ keyword_line (bytes "#EOT" ∷ table_name n ∷ [])

-- ---- the most bytes that are printed

-- id, two texts, flag, tabs, comment signs and newline
abbrev pub row_most : ℕ
row_most = 18 + 2 * text_most

-- two keyword lines, 256 rows
abbrev pub table_most : ℕ
table_most = 32 + row_most * row_limit

abbrev pub tables_most : ℕ
tables_most = table_most * table_count
