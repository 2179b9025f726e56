-- `tables::rows::editor_row` meets its contract: the rules of the line in their order.
use Rattle.columns.specs.Lines.{text_in, columns_in}
use native.Mathlib.Omega.{arith}
use Prim.Native.Nat.{ℕ}
use mathlib.Core.Path.{◌≡◌, refl, sym, ap, ◌∙◌}
use mathlib.Core.Bool.{true}
use Rattle.std.specs.Prelude.{Option, Some}
use mathlib.Core.List.{List, [], ◌∷◌}
use Rattle.rules.specs.Texts.{Text, given, trim}
use Rattle.rules.specs.Columns.{Column, column, written}
use Rattle.rules.specs.Numbers.{signed_id, value}
use Rattle.rules.specs.Tables.{Row}
use Rattle.rules.specs.Rows.{editor_row}
use Rattle.columns.specs.Listing.{span_of}
use Rattle.table_sheet.specs.SheetRows.{rows_from}
use Rattle.tables.specs.RowRules.{text_rule, id_rule, room_rule}
use Rattle.tables.proofs.Asked.{same_fault, same_row}
use Rattle.tables.proofs.BegunRows.{text_missing, id_unread, row_begun}
use Rattle.tables.proofs.SpanTests.{some_given}
use Rattle.tables.proofs.RowTexts.{behind_there}
use Rattle.tables.proofs.rows.editor_row.Goals as goal

pub column_span-requires : goal.column_span-requires
column_span-requires c =
    let cs : List Column = columns_in c.args.line.now in
    let name : Text = trim (column cs 1).after in
    let name-is : c.text_from-name.result ≡ span_of name = c.text_from-name.ensures in
    let named : given name ≡ true = some_given name name-is c.if-name-eq0.false in
    omega (arith, behind_there cs 1 named, c.args.line.now.listed.counted)

pub returns-then-name-eq0 : goal.returns-then-name-eq0
unfolding editor_row
returns-then-name-eq0 c =
    let id : Option ℕ = signed_id (written (columns_in c.args.line.now) 0).bytes in
    let name : Text = trim (column (columns_in c.args.line.now) 1).after in
    let name-is : c.text_from-name.result ≡ span_of name = c.text_from-name.ensures in
    same_fault c.line_fault.ensures ∙ text_missing name id _ _ _ _ refl name-is c.if-name-eq0.true

pub returns-in_default : goal.returns-in_default
unfolding editor_row
returns-in_default c =
    let id : Option ℕ = signed_id (written (columns_in c.args.line.now) 0).bytes in
    let name : Text = trim (column (columns_in c.args.line.now) 1).after in
    let name-is : c.text_from-name.result ≡ span_of name = c.text_from-name.ensures in
    let named : given name ≡ true = some_given name name-is c.if-name-eq0.false in
    let read_is : c.read.result ≡ id = c.read.ensures ∙ ap (λ (xs : List ℕ). signed_id xs) c.column_text.ensures in
    same_fault c.column_fault.ensures
    ∙ id_unread name id _ _ _ _ refl named (sym read_is ∙ c.in_default.is)

pub returns : goal.returns
unfolding editor_row
returns c =
    let login : Text = written (columns_in c.args.line.now) 1 in
    let id : Option ℕ = signed_id (written (columns_in c.args.line.now) 0).bytes in
    let name : Text = trim (column (columns_in c.args.line.now) 1).after in
    let rows : List Row = let a = c.args in rows_from c.args.line.now.file.now a.sheet.now a.place a.rows in
    let name-is : c.text_from-name.result ≡ span_of name = c.text_from-name.ensures in
    let named : given name ≡ true = some_given name name-is c.if-name-eq0.false in
    let read_is : c.read.result ≡ id = c.read.ensures ∙ ap (λ (xs : List ℕ). signed_id xs) c.column_text.ensures in
    let told : id ≡ Some c.in-Some.id1 = sym read_is ∙ c.in-Some.is in
    c.with_texts.ensures rows login name refl c.column_span.ensures name-is
    ∙ same_row (λ (i : ℕ). text_rule 16 login ∷ text_rule 40 name ∷ id_rule i (text_in c.args.line.now) rows ∷ room_rule (text_in c.args.line.now) rows ∷ []) (sym (ap value told)) c.column_span.ensures name-is refl
    ∙ sym (row_begun name id _ _ _ _ refl named told)
