-- `tables::table_begin_line` meets its contract: the table that the line names, and whether it is there already.
use Rattle.columns.specs.Lines.{text_in, columns_in}
use Prim.Native.Nat.{ℕ}
use mathlib.Core.Path.{◌≡◌, sym, ap, ◌∙◌}
use mathlib.Core.Bool.{true, not}
use Rattle.std.specs.Prelude.{Option, Some}
use Rattle.rules.specs.Columns.{written}
use Rattle.rules.specs.Numbers.{value}
use Rattle.rules.specs.Tables.{table_named}
use Rattle.rules.specs.Keywords.{fresh, table_opened}
use Rattle.rules.specs.Lines.{table_begins}
use Rattle.steps.specs.declared.Step.TheVariants.{TableBegins}
use Rattle.table_sheet.specs.SheetRows.{tables_in}
use Rattle.tables.specs.Names.{name_rules}
use Rattle.tables.specs.RowRules.{asked}
use Rattle.tables.proofs.NamedLines.{step_named}
use Rattle.tables.proofs.table_begin_line.Goals as goal

pub returns-in_default : goal.returns-in_default
unfolding table_opened
returns-in_default c =
    c.wrong_name.ensures _
    ∙ sym (step_named table_begins (text_in c.args.line.now) _ c.args.line.now.listed.counted (ap (fresh (tables_in c.args.line.now.file.now c.args.sheet.now)) (sym c.table_on.ensures ∙ c.in_default.is)))

pub returns-then-is_present : goal.returns-then-is_present
unfolding table_opened
returns-then-is_present c =
    let told : (table_named (written (columns_in c.args.line.now) 1)) ≡ Some c.in-Some.n = sym c.table_on.ensures ∙ c.in-Some.is in
    let fresh-is : fresh (tables_in c.args.line.now.file.now c.args.sheet.now) (table_named (written (columns_in c.args.line.now) 1)) ≡ not c.is_present.result = ap (fresh (tables_in c.args.line.now.file.now c.args.sheet.now)) told ∙ ap not (sym (c.is_present.ensures c.args.line.now.file.now)) in
    c.wrong_name-then-is_present.ensures _ ∙ sym (step_named table_begins (text_in c.args.line.now) _ c.args.line.now.listed.counted (fresh-is ∙ ap not c.if-is_present.true))

pub returns : goal.returns
unfolding table_opened
returns c =
    let told : (table_named (written (columns_in c.args.line.now) 1)) ≡ Some c.in-Some.n = sym c.table_on.ensures ∙ c.in-Some.is in
    let fresh-is : fresh (tables_in c.args.line.now.file.now c.args.sheet.now) (table_named (written (columns_in c.args.line.now) 1)) ≡ not c.is_present.result = ap (fresh (tables_in c.args.line.now.file.now c.args.sheet.now)) told ∙ ap not (sym (c.is_present.ensures c.args.line.now.file.now)) in
    c.with_name.ensures
    ∙ ap (λ (o : Option ℕ). asked (name_rules (text_in c.args.line.now) c.args.line.now.columns true) (TableBegins (value o))) (sym told)
    ∙ sym (step_named table_begins (text_in c.args.line.now) _ c.args.line.now.listed.counted (fresh-is ∙ ap not c.if-is_present.false))
