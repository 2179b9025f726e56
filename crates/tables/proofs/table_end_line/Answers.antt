-- `tables::table_end_line` meets its contract: the table that the line names, and whether it is the one that is open.
use Rattle.columns.specs.Lines.{text_in, columns_in}
use borrow.Author.Tests.{eq-eqb, ne_eqb}
use mathlib.Core.Path.{◌≡◌, sym, ap, ◌∙◌}
use lib.Dec.{eqb}
use Rattle.rules.specs.Columns.{written}
use Rattle.rules.specs.Tables.{table_named}
use Rattle.rules.specs.Keywords.{itself, table_ended}
use Rattle.rules.specs.Lines.{table_ends}
use Rattle.tables.proofs.NamedLines.{step_named}
use Rattle.tables.proofs.table_end_line.Goals as goal

pub returns-in_default : goal.returns-in_default
unfolding table_ended
returns-in_default c =
    c.wrong_name.ensures _
    ∙ sym (step_named (λ m. table_ends) (text_in c.args.line.now) _ c.args.line.now.listed.counted (ap (itself c.args.table) (sym c.table_on.ensures ∙ c.in_default.is)))

pub returns-then-n-table : goal.returns-then-n-table
unfolding table_ended
returns-then-n-table c =
    let itself-is : let t = c.args.table in itself t (table_named (written (columns_in c.args.line.now) 1)) ≡ eqb t c.in-Some.n = ap (itself c.args.table) (sym c.table_on.ensures ∙ c.in-Some.is) in
    c.wrong_name-then-n-table.ensures _
    ∙ sym (step_named (λ m. table_ends) (text_in c.args.line.now) _ c.args.line.now.listed.counted (itself-is ∙ ne_eqb _ _ (λ z. c.if-n-table.true (sym z))))

pub returns : goal.returns
unfolding table_ended
returns c =
    let itself-is : let t = c.args.table in itself t (table_named (written (columns_in c.args.line.now) 1)) ≡ eqb t c.in-Some.n = ap (itself c.args.table) (sym c.table_on.ensures ∙ c.in-Some.is) in
    c.with_name.ensures ∙ sym (step_named (λ m. table_ends) (text_in c.args.line.now) _ c.args.line.now.listed.counted (itself-is ∙ eq-eqb _ _ (sym c.if-n-table.false)))
