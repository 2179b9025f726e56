-- `tables::names::table_on` meets its contract: a line of one column names none.
use Rattle.columns.specs.Lines.{columns_in}
use Prim.Native.Nat.{ℕ}
use mathlib.Core.Path.{ap, ◌∙◌}
use mathlib.Core.List.{List}
use Rattle.rules.specs.Columns.{written}
use Rattle.rules.specs.Tables.{table_named}
use Rattle.tables.proofs.names.table_on.Goals as goal

pub returns : goal.returns
returns c =
    let place : ℕ = (written (columns_in c.args.line.now) 1).start in
    c.table_named.ensures place ∙ ap (λ (xs : List ℕ). table_named (record { start = place; bytes = xs })) c.column_text.ensures
