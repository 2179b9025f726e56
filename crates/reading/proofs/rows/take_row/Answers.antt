-- `reading::rows::take_row` meets its contract.
use Prim.Native.Nat.{ℕ}
use mathlib.Core.Path.{refl, ap₂, ◌∙◌}
use Rattle.reading.specs.NotedTags.{hints_with}
use Rattle.reading.proofs.rows.take_row.Goals as goal

pub returns : goal.returns
returns c =
    let a = c.args in (
      rw (c.moved.ensures, c.rows_in-rows.ensures, c.table_in-table.ensures) refl,
      rw (c.put_row.ensures.0, c.rows_in-rows.ensures, c.table_in-table.ensures) refl,
      c.put_row.ensures.1
          ∙ ap₂ (λ (t n : ℕ). hints_with a.row t n a.file.now c.put_row.new.sheet a.hints.now)
          c.table_in-table.ensures c.rows_in-rows.ensures,
    )
