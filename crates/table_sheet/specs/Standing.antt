-- What makes a sheet readable: seven tables that fit their room, and texts that stand in the file.
use Rattle.std.specs.Prelude.{ℕ, ◌+◌, ◌*◌, ◌≤◌, ◌<◌, ◌≡◌, List, length, take, drop, get_or, Option}
use Rattle.rules.specs.Lists.{Each}
use Rattle.rules.specs.Texts.{Text}
use Rattle.rules.specs.Numbers.{row_limit}
use Rattle.rules.specs.Tables.{Row, Tables, rows_of}
use Rattle.rules.specs.Sheets.{table_count, row_width}

abbrev pub RowsHaveRoom : List Row → Type 0
RowsHaveRoom rs = length rs ≤ row_limit

abbrev pub TableHasRoom : Option (List Row) → Type 0
TableHasRoom t = RowsHaveRoom (rows_of t)

pub record TablesHaveRoom (ts : Tables) : Type 0 where
  pub seven : length ts ≡ table_count
  pub room : Each TableHasRoom ts

-- the file has the text's bytes at the text's place
pub record Stands (file : List ℕ) (t : Text) : Type 0 where
  pub inside : t.start + length t.bytes ≤ length file
  pub found : take (length t.bytes) (drop t.start file) ≡ t.bytes

pub record RowStands (file : List ℕ) (r : Row) : Type 0 where
  pub first : Stands file r.first
  pub second : Stands file r.second

abbrev pub RowsStand : List ℕ → List Row → Type 0
RowsStand file rs = Each (RowStands file) rs

abbrev pub TableStands : List ℕ → Option (List Row) → Type 0
TableStands file t = RowsStand file (rows_of t)

abbrev pub TablesStand : List ℕ → Tables → Type 0
TablesStand file ts = Each (TableStands file) ts

-- the texts whose starts and lengths stand in the row at a place lie inside the file
pub record RowInside (file sheet : List ℕ) (at : ℕ) : Type 0 where
  pub first : get_or sheet (at + 1) 0 + get_or sheet (at + 2) 0 ≤ length file
  pub second : get_or sheet (at + 3) 0 + get_or sheet (at + 4) 0 ≤ length file

-- so do those of as many rows as count, from a place on
abbrev pub Inside : List ℕ → List ℕ → ℕ → ℕ → Type 0
Inside file sheet at count = (k : ℕ) → k < count → RowInside file sheet (at + row_width * k)
