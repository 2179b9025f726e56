-- The table sheet of tables that have room and stand in the file can be looked up.
use Prim.Native.Nat.{ℕ, suc, ◌-◌, ◌≤◌, ◌<◌}
use native.Mathlib.Omega.{arith}
use mathlib.Core.Path.{◌≡◌, refl, sym, ap, ◌∙◌, subst}
use Rattle.std.specs.Prelude.{Option, None, Some}
use mathlib.Core.List.{List}
use lib.ListN.{length, get_or}
use Rattle.rules.specs.Numbers.{row_limit}
use Rattle.rules.specs.Tables.{Row, Tables, table, rows_of}
use Rattle.rules.specs.Sheets.{table_count, row_place, table_sheet_size, count, table_sheet}
use Rattle.rules.proofs.Rooms.{each_at}
use Rattle.table_sheet.specs.Standing.{RowsHaveRoom, TablesHaveRoom, TablesStand, Inside}
use Rattle.table_sheet.proofs.OpenSheets.{length_table_sheet, count_of_table}
use Rattle.table_sheet.proofs.ReadBack.{table_rows_inside}
use Rattle.citations.specs.Tabled.{Counted, Tabled}

count_bound : (t : Option (List Row)) → RowsHaveRoom (rows_of t) → count t ≤ suc row_limit
count_bound None h = omega arith
count_bound (Some rs) h = omega arith

count_rows : (t : Option (List Row)) → count t - 1 ≡ length (rows_of t)
count_rows None = refl
count_rows (Some rs) = omega arith

pub full_counted : (sheet : List ℕ) → length sheet ≡ table_sheet_size → ((n : ℕ) → n < table_count → get_or sheet n 0 ≤ suc row_limit) → Counted sheet
full_counted sheet size counts =
    record {
      seven = omega (arith, size);
      room = λ n rows h e. omega (arith, size, counts n h, e);
    }

module _ (ts : Tables) (fits : TablesHaveRoom ts) where
  count_is : (n : ℕ) → n < table_count → get_or (table_sheet ts) n 0 ≡ count (table n ts)
  count_is n h = count_of_table ts n (omega (arith, fits.seven))

  pub counted : Counted (table_sheet ts)
  counted =
      full_counted (table_sheet ts) (length_table_sheet ts fits)
      (λ n h.
      rw (count_is n h)
      (count_bound (table n ts) (each_at (λ (t : Option (List Row)). RowsHaveRoom (rows_of t)) ts n None fits.room (omega (arith, fits.seven)))))

  pub tabled : (file : List ℕ) → TablesStand file ts → Tabled file (table_sheet ts)
  tabled file stand =
      record {
        counted = counted;
        inside =
            λ n h.
            subst (λ (rows : ℕ). Inside file (table_sheet ts) (row_place n 0) rows)
            (sym (ap (λ (c : ℕ). c - 1) (count_is n h) ∙ count_rows (table n ts)))
            (table_rows_inside file ts fits stand n h);
      }
