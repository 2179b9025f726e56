-- `tables::format_line` meets its contract: the rules of the line in their order.
use Rattle.columns.specs.Lines.{columns_in}
use borrow.Author.Tests.{eq-eqb, ne_eqb}
use Prim.Native.Nat.{ℕ}
use mathlib.Core.Path.{◌≡◌, refl, sym, ap, ◌∙◌}
use mathlib.Core.Bool.{true}
use mathlib.Core.List.{List}
use Rattle.std.specs.Prelude.{Option, Some}
use lib.Dec.{eqb}
use lib.ListN.{length}
use Rattle.rules.specs.Columns.{Column, written}
use Rattle.rules.specs.Numbers.{format_number, number, good}
use Rattle.rules.specs.Keywords.{format_of}
use Rattle.rules.specs.Lines.{format_line}
use Rattle.tables.proofs.Asked.{same_fault, step_asked, holds, breaks, none_left}
use Rattle.tables.proofs.format_line.Goals as goal

pub returns-then-line-ne2 : goal.returns-then-line-ne2
unfolding format_of
returns-then-line-ne2 c =
    let cs : List Column = columns_in c.args.line.now in
    let counted : c.args.line.now.columns ≡ length cs = c.args.line.now.listed.counted in
    same_fault c.line_fault.ensures
    ∙ sym (step_asked format_line _ _ refl ∙ breaks _ _ _ (ne_eqb (length cs) 2 (λ z. c.if-line-ne2.true (counted ∙ z))))

pub returns-in_default : goal.returns-in_default
unfolding format_of
returns-in_default c =
    let cs : List Column = columns_in c.args.line.now in
    let read : Option ℕ = number format_number (written cs 1).bytes in
    let counted : c.args.line.now.columns ≡ length cs = c.args.line.now.listed.counted in
    let two : eqb (length cs) 2 ≡ true = eq-eqb (length cs) 2 (sym counted ∙ c.if-line-ne2.false) in
    let read_is : c.read.result ≡ read = c.read.ensures ∙ ap (λ (xs : List ℕ). number format_number xs) c.column_text.ensures in
    same_fault c.column_fault.ensures
    ∙ sym (step_asked format_line _ _ refl ∙ holds _ _ _ two ∙ breaks _ _ _ (ap good (sym read_is ∙ c.in_default.is)))

pub returns-then-n-ne-FORMAT : goal.returns-then-n-ne-FORMAT
unfolding format_of
returns-then-n-ne-FORMAT c =
    let cs : List Column = columns_in c.args.line.now in
    let read : Option ℕ = number format_number (written cs 1).bytes in
    let counted : c.args.line.now.columns ≡ length cs = c.args.line.now.listed.counted in
    let two : eqb (length cs) 2 ≡ true = eq-eqb (length cs) 2 (sym counted ∙ c.if-line-ne2.false) in
    let read_is : c.read.result ≡ read = c.read.ensures ∙ ap (λ (xs : List ℕ). number format_number xs) c.column_text.ensures in
    let told : read ≡ Some c.in-Some.n = sym read_is ∙ c.in-Some.is in
    same_fault c.line_fault-then-n-ne-FORMAT.ensures
    ∙ sym (step_asked format_line _ _ refl ∙ holds _ _ _ two ∙ holds _ _ _ (rw told) ∙ breaks _ _ _ (rw (told, ne_eqb _ 3 c.if-n-ne-FORMAT.true)))

pub returns : goal.returns
unfolding format_of
returns c =
    let cs : List Column = columns_in c.args.line.now in
    let read : Option ℕ = number format_number (written cs 1).bytes in
    let counted : c.args.line.now.columns ≡ length cs = c.args.line.now.listed.counted in
    let two : eqb (length cs) 2 ≡ true = eq-eqb (length cs) 2 (sym counted ∙ c.if-line-ne2.false) in
    let read_is : c.read.result ≡ read = c.read.ensures ∙ ap (λ (xs : List ℕ). number format_number xs) c.column_text.ensures in
    let told : read ≡ Some c.in-Some.n = sym read_is ∙ c.in-Some.is in
    sym (step_asked format_line _ _ refl ∙ holds _ _ _ two ∙ holds _ _ _ (rw told) ∙ holds _ _ _ (rw (told, eq-eqb _ 3 c.if-n-ne-FORMAT.false)) ∙ none_left _ ∙ rw told)
