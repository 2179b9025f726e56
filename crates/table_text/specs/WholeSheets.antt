-- A table sheet that can be printed: of its full size, no table with more rows than the limit, and texts inside the file.
use Rattle.std.specs.Prelude.{ℕ, suc, ◌-◌, ◌≤◌, ◌<◌, ◌≡◌, List, length, get_or}
use Rattle.rules.specs.Numbers.{row_limit}
use Rattle.rules.specs.Sheets.{table_count, row_place, table_sheet_size}
use Rattle.table_sheet.specs.Standing.{Inside}

pub record WholeSheet (file sheet : List ℕ) : Type 0 where
  pub size : length sheet ≡ table_sheet_size
  pub counts : (n : ℕ) → n < table_count → get_or sheet n 0 ≤ suc row_limit
  pub inside : (n : ℕ) → n < table_count → Inside file sheet (row_place n 0) (get_or sheet n 0 - 1)
