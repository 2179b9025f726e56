-- `judging::among_rows` meets its contract.
use Rattle.columns.specs.Lines.{text_in}
use Rattle.std.specs.Prelude.{Err}
use mathlib.Core.Path.{ap, ◌∙◌}
use native.Mathlib.Omega.{arith}
use Rattle.rules.specs.Sheets.{row_place}
use Rattle.table_sheet.specs.SheetRows.{rows_from}
use Rattle.judging.proofs.FirstColumns.{row_columns, rows_end, rows_row, rows_none}
use Rattle.judging.proofs.among_rows.Goals as goal

pub returns-then-same_text : goal.returns-then-same_text
returns-then-same_text c =
    c.table_end_line.ensures
    ∙ rows_end (text_in c.args.line.now) c.args.first.now c.requires.0 c.args.table (rows_from c.args.line.now.file.now c.args.sheet.now (row_place c.args.table 0) c.args.rows) c.same_text.ensures c.if-same_text.true

pub row_line-requires : goal.row_line-requires
row_line-requires c =
    let some = row_columns (text_in c.args.line.now) c.args.first.now c.requires.0 c.starts_row.ensures c.if-starts_row.true in
    (omega (arith, c.args.line.now.listed.counted, some), c.requires.1, c.requires.2)

pub returns-then-starts_row : goal.returns-then-starts_row
returns-then-starts_row c =
    c.row_line.ensures
    ∙ rows_row (text_in c.args.line.now) c.args.first.now c.requires.0 c.args.table (rows_from c.args.line.now.file.now c.args.sheet.now (row_place c.args.table 0) c.args.rows) c.same_text.ensures c.if-same_text.false
    c.starts_row.ensures c.if-starts_row.true

pub returns : goal.returns
returns c =
    ap Err c.line_fault.ensures
    ∙ rows_none (text_in c.args.line.now) c.args.first.now c.requires.0 c.args.table (rows_from c.args.line.now.file.now c.args.sheet.now (row_place c.args.table 0) c.args.rows) c.same_text.ensures c.if-same_text.false
    c.starts_row.ensures c.if-starts_row.false
