-- The outline of a tag is a small number made of its bytes. Those of a table's rows so far are noted, so that a tag whose
-- outline is not noted is a new one.
use Rattle.std.specs.Prelude.{ℕ, ◌+◌, ◌*◌, ◌<◌, ◌%◌, ◌≡◌, List, [], ◌∷◌, length, get_or, set}
use Rattle.rules.specs.Sheets.{table_count, row_width}
use Rattle.table_sheet.specs.SheetRows.{row_at}

-- how many a table can have
abbrev pub outline_count : ℕ
outline_count = 1024

-- with this number for the bytes in front
unfoldable pub outline_from : ℕ → List ℕ → ℕ
outline_from n [] = n
outline_from n (b ∷ bs) = outline_from ((37 * n + b) % outline_count) bs

abbrev pub outline_of : List ℕ → ℕ
outline_of tag = outline_from 0 tag

abbrev pub outline_place : ℕ → List ℕ → ℕ
outline_place table tag = outline_count * table + outline_of tag

abbrev pub with_outline : ℕ → List ℕ → List ℕ → List ℕ
with_outline table tag outlines = set outlines (outline_place table tag) 1

-- the outlines of as many rows of a table as count are noted, from a place on
pub record Outlined (outlines file sheet : List ℕ) (table at count : ℕ) : Type 0 where
  pub size : length outlines ≡ outline_count * table_count
  pub noted : (k : ℕ) → k < count → get_or outlines (outline_place table (row_at file sheet (at + row_width * k)).first.bytes) 0 ≡ 1
