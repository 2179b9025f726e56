-- Seven zeros are a sheet of no tables: no look-up asks for more.
use Prim.Native.Nat.{ℕ, ◌<◌}
use native.Mathlib.Omega.{arith}
use mathlib.Core.Path.{◌≡◌, refl}
use mathlib.Core.List.{List}
use lib.ListN.{get_or, replicate, get_or-replicate}
use Rattle.rules.specs.Tables.{no_tables}
use Rattle.rules.specs.Sheets.{table_count}
use Rattle.table_sheet.specs.SheetRows.{tables_in}
use Rattle.citations.specs.Tabled.{Tabled}

no_rows : (n : ℕ) → n < table_count → get_or {A = ℕ} (replicate table_count 0) n 0 ≡ 0
no_rows n h = get_or-replicate {A = ℕ} table_count n 0 0 h

pub no_tables_lem : (file : List ℕ) → Tabled file (replicate table_count 0) × (tables_in file (replicate table_count 0) ≡ no_tables)
unfolding tables_in
no_tables_lem file = (
  record {
    counted =
        record {
          seven = omega arith;
          room = λ n rows h e. omega (arith, no_rows n h, e);
        };
    inside = λ n h k below. absurd (omega (arith, no_rows n h, below));
  },
  refl,
)
