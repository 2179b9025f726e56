-- `tables::origins::origin_row` meets its contract: the rules of the line in their order.
use Rattle.columns.specs.Lines.{text_in, columns_in}
use Prim.Native.Nat.{ℕ, suc}
use native.Mathlib.Numerals.{add-one}
use mathlib.Core.Path.{◌≡◌, refl, sym, ap, ◌∙◌}
use mathlib.Core.Bool.{true}
use Rattle.std.specs.Prelude.{Option, Some}
use mathlib.Core.List.{List, [], ◌∷◌}
use Rattle.rules.specs.Texts.{Text, given, trim, in_front, behind}
use Rattle.rules.specs.Columns.{column, written}
use Rattle.rules.specs.Numbers.{origin_id, number, value}
use Rattle.rules.specs.Tables.{Row}
use Rattle.rules.specs.Rows.{origin_row}
use Rattle.columns.specs.Listing.{span_of}
use Rattle.table_sheet.specs.SheetRows.{rows_from}
use Rattle.tables.specs.RowTexts.{origin_texts}
use Rattle.tables.specs.declared.origins.OriginTexts.{OriginTexts}
use Rattle.tables.specs.RowRules.{text_rule, id_rule, room_rule}
use Rattle.tables.proofs.Asked.{same_fault, same_row}
use Rattle.tables.proofs.BegunRows.{text_missing, id_unread, row_begun}
use Rattle.tables.proofs.SpanTests.{some_given}
use Rattle.tables.proofs.origins.origin_row.Goals as goal

pub returns-then-texts-eq0 : goal.returns-then-texts-eq0
unfolding origin_row origin_texts
returns-then-texts-eq0 c =
    let id : Option ℕ = number origin_id (written (columns_in c.args.line.now) 0).bytes in
    let name : Text = trim (in_front (column (columns_in c.args.line.now) 0).after) in
    let name-is : c.origin_texts-texts.result.name ≡ span_of name = ap (λ (t : OriginTexts). t.name) c.origin_texts-texts.ensures in
    same_fault c.line_fault.ensures ∙ text_missing name id _ _ _ _ refl name-is c.if-texts-eq0.true

pub returns-in_default : goal.returns-in_default
unfolding origin_row origin_texts
returns-in_default c =
    let id : Option ℕ = number origin_id (written (columns_in c.args.line.now) 0).bytes in
    let name : Text = trim (in_front (column (columns_in c.args.line.now) 0).after) in
    let name-is : c.origin_texts-texts.result.name ≡ span_of name = ap (λ (t : OriginTexts). t.name) c.origin_texts-texts.ensures in
    let named : given name ≡ true = some_given name name-is c.if-texts-eq0.false in
    let read_is : c.read.result ≡ id = c.read.ensures ∙ ap (λ (xs : List ℕ). number origin_id xs) c.column_text.ensures in
    same_fault c.column_fault.ensures
    ∙ id_unread name id _ _ _ _ refl named (sym read_is ∙ c.in_default.is)

pub returns : goal.returns
unfolding origin_row origin_texts
returns c =
    let id : Option ℕ = number origin_id (written (columns_in c.args.line.now) 0).bytes in
    let note : Text = trim (behind (column (columns_in c.args.line.now) 0).after) in
    let name : Text = trim (in_front (column (columns_in c.args.line.now) 0).after) in
    let rows : List Row = let a = c.args in rows_from c.args.line.now.file.now a.sheet.now a.place a.rows in
    let name-is : c.origin_texts-texts.result.name ≡ span_of name = ap (λ (t : OriginTexts). t.name) c.origin_texts-texts.ensures in
    let note-is : c.origin_texts-texts.result.note ≡ span_of note = ap (λ (t : OriginTexts). t.note) c.origin_texts-texts.ensures in
    let named : given name ≡ true = some_given name name-is c.if-texts-eq0.false in
    let read_is : c.read.result ≡ id = c.read.ensures ∙ ap (λ (xs : List ℕ). number origin_id xs) c.column_text.ensures in
    let told : id ≡ Some c.in-Some.id = sym read_is ∙ c.in-Some.is in
    c.with_texts.ensures rows name note refl name-is note-is
    ∙ same_row (λ (i : ℕ). text_rule 128 name ∷ text_rule 160 note ∷ id_rule i (text_in c.args.line.now) rows ∷ room_rule (text_in c.args.line.now) rows ∷ []) (add-one _ ∙ sym (ap (λ (o : Option ℕ). suc (value o)) told)) name-is note-is refl
    ∙ sym (row_begun name id _ _ _ _ refl named told)
