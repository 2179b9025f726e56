-- `explaining::describe` meets its contract: of rows whose tags differ, the one that is found is the only one with the tag.
use native.Mathlib.Omega.{arith}
use mathlib.Core.Path.{sym, subst, ◌∙◌}
use Rattle.std.specs.Prelude.{Some, None}
use Rattle.table_sheet.specs.SheetRows.{rows_from}
use Rattle.table_sheet.specs.LookUps.{TagFound}
use Rattle.explaining.proofs.Described.{row_stands, row_told, reserved_told, missing_told}
use Rattle.explaining.proofs.describe.Goals as goal

pub overflow_mul-at : goal.overflow_mul-at
overflow_mul-at c = omega (arith, row_stands c.args.file.now c.args.sheet.now c.args.place c.args.rows c.args.tag.now c.args.of c.requires.0 c.in-Some.row (subst (TagFound c.args.tag.now (rows_from c.args.file.now c.args.sheet.now c.args.place c.args.rows)) c.in-Some.is c.seek_tag.ensures))

pub overflow_add-at : goal.overflow_add-at
overflow_add-at c = omega (arith, row_stands c.args.file.now c.args.sheet.now c.args.place c.args.rows c.args.tag.now c.args.of c.requires.0 c.in-Some.row (subst (TagFound c.args.tag.now (rows_from c.args.file.now c.args.sheet.now c.args.place c.args.rows)) c.in-Some.is c.seek_tag.ensures))

pub overflow_add-at-in-Some : goal.overflow_add-at-in-Some
overflow_add-at-in-Some c = omega (arith, row_stands c.args.file.now c.args.sheet.now c.args.place c.args.rows c.args.tag.now c.args.of c.requires.0 c.in-Some.row (subst (TagFound c.args.tag.now (rows_from c.args.file.now c.args.sheet.now c.args.place c.args.rows)) c.in-Some.is c.seek_tag.ensures))

pub offset_bounds-sheet-at : goal.offset_bounds-sheet-at
offset_bounds-sheet-at c = omega (arith, row_stands c.args.file.now c.args.sheet.now c.args.place c.args.rows c.args.tag.now c.args.of c.requires.0 c.in-Some.row (subst (TagFound c.args.tag.now (rows_from c.args.file.now c.args.sheet.now c.args.place c.args.rows)) c.in-Some.is c.seek_tag.ensures))

pub bounds-sheet-at : goal.bounds-sheet-at
bounds-sheet-at c = omega (arith, row_stands c.args.file.now c.args.sheet.now c.args.place c.args.rows c.args.tag.now c.args.of c.requires.0 c.in-Some.row (subst (TagFound c.args.tag.now (rows_from c.args.file.now c.args.sheet.now c.args.place c.args.rows)) c.in-Some.is c.seek_tag.ensures))

pub overflow_add-at-in-Some-2 : goal.overflow_add-at-in-Some-2
overflow_add-at-in-Some-2 c = omega (arith, row_stands c.args.file.now c.args.sheet.now c.args.place c.args.rows c.args.tag.now c.args.of c.requires.0 c.in-Some.row (subst (TagFound c.args.tag.now (rows_from c.args.file.now c.args.sheet.now c.args.place c.args.rows)) c.in-Some.is c.seek_tag.ensures))

pub offset_bounds-sheet-at-in-Some : goal.offset_bounds-sheet-at-in-Some
offset_bounds-sheet-at-in-Some c = omega (arith, row_stands c.args.file.now c.args.sheet.now c.args.place c.args.rows c.args.tag.now c.args.of c.requires.0 c.in-Some.row (subst (TagFound c.args.tag.now (rows_from c.args.file.now c.args.sheet.now c.args.place c.args.rows)) c.in-Some.is c.seek_tag.ensures))

pub bounds-sheet-at-in-Some : goal.bounds-sheet-at-in-Some
bounds-sheet-at-in-Some c = omega (arith, row_stands c.args.file.now c.args.sheet.now c.args.place c.args.rows c.args.tag.now c.args.of c.requires.0 c.in-Some.row (subst (TagFound c.args.tag.now (rows_from c.args.file.now c.args.sheet.now c.args.place c.args.rows)) c.in-Some.is c.seek_tag.ensures))

pub returns-in-Some : goal.returns-in-Some
returns-in-Some c =
    let has-tag : TagFound c.args.tag.now (rows_from c.args.file.now c.args.sheet.now c.args.place c.args.rows) (Some c.in-Some.row) = subst (TagFound c.args.tag.now (rows_from c.args.file.now c.args.sheet.now c.args.place c.args.rows)) c.in-Some.is c.seek_tag.ensures in
    row_told c.args.file.now c.args.sheet.now c.args.place c.args.rows c.args.tag.now c.args.of c.in-Some.row (row_stands c.args.file.now c.args.sheet.now c.args.place c.args.rows c.args.tag.now c.args.of c.requires.0 c.in-Some.row has-tag).0 c.requires.1 c.requires.2 has-tag _ c.granted.ensures

-- ---- no row

pub returns-then-is_reserved : goal.returns-then-is_reserved
returns-then-is_reserved c =
    let missing : TagFound c.args.tag.now (rows_from c.args.file.now c.args.sheet.now c.args.place c.args.rows) None = subst (TagFound c.args.tag.now (rows_from c.args.file.now c.args.sheet.now c.args.place c.args.rows)) c.in_default.is c.seek_tag.ensures in
    reserved_told c.args.file.now c.args.sheet.now c.args.place c.args.rows c.args.tag.now c.args.of missing (sym c.is_reserved.ensures ∙ c.if-is_reserved.true) _ c.granted-then-is_reserved.ensures

pub returns : goal.returns
returns c =
    let missing : TagFound c.args.tag.now (rows_from c.args.file.now c.args.sheet.now c.args.place c.args.rows) None = subst (TagFound c.args.tag.now (rows_from c.args.file.now c.args.sheet.now c.args.place c.args.rows)) c.in_default.is c.seek_tag.ensures in
    missing_told c.args.file.now c.args.sheet.now c.args.place c.args.rows c.args.tag.now c.args.of missing (sym c.is_reserved.ensures ∙ c.if-is_reserved.false) _ c.refused.ensures
