-- Texts that stand in the file, and rows and tables of them: one row more, one table more.
use mathlib.Core.Path.{◌≡◌, refl, ap}
use Rattle.std.specs.Prelude.{None, Some}
use mathlib.Core.List.{List, [], ◌∷◌, ◌++◌}
use Prim.Native.Nat.{ℕ, ◌+◌, ◌-◌, ◌≤◌}
use native.Mathlib.Omega.{arith}
use lib.ListN.{length, take, drop, length-drop}
use lib.Seq.{length-take-le}
use Rattle.rules.specs.Texts.{no_text}
use Rattle.rules.specs.Tables.{Row, Tables, closed, no_tables}
use Rattle.rules.specs.Sheets.{table_count}
use Rattle.rules.proofs.EachElement.{each_more}
use Rattle.table_sheet.specs.SheetRows.{text_at}
use Rattle.table_sheet.specs.Standing.{Stands, RowStands, RowsStand, TableStands, TablesStand}
use Rattle.table_sheet.proofs.Each.{each_set, each_replicate}

pub no_text_stands : (file : List ℕ) → Stands file no_text
no_text_stands file = record { inside = omega arith; found = refl }

pub text_stands : (file : List ℕ) (start len : ℕ) → start + len ≤ length file → Stands file (text_at file start len)
text_stands file start len h =
    let d : length (drop start file) ≡ length file - start = length-drop start file in
    let e : length (take len (drop start file)) ≡ len = length-take-le len (drop start file) (omega arith) in
    record { inside = omega arith; found = ap (λ (n : ℕ). take n (drop start file)) e }

-- ---- a row more, a table more

module _ (file : List ℕ) where
  pub rows_stand_more : (rs : List Row) (r : Row) → RowsStand file rs → RowStands file r → RowsStand file (rs ++ (r ∷ []))
  rows_stand_more rs r s one = each_more (RowStands file) rs r s one

  pub none_stand : TablesStand file no_tables
  none_stand = each_replicate (TableStands file) table_count None tt

  pub tables_stand_closed : (ts : Tables) (n : ℕ) (rs : List Row) → TablesStand file ts → RowsStand file rs
      → TablesStand file (closed n rs ts)
  tables_stand_closed ts n rs s more = each_set (TableStands file) ts n (Some rs) s more
