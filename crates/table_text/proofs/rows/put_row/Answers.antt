-- `rows::put_row` meets its contract: column behind column.
-- No loop.
use Rattle.printing.proofs.PutLaws.{put_then, put_as}
use Rattle.table_sheet.specs.SheetRows.{row_at}
use Rattle.table_text.proofs.RowTexts.{row_line_lem}
use Rattle.table_text.proofs.rows.put_row.Goals as goal

pub returns : goal.returns
returns c =
    let a = c.args in
    let r = row_at a.file.now a.sheet.now a.place in
    put_as
    (row_line_lem a.table r)
    (put_then
    (put_then (put_then (put_then c.put_id-numbered.ensures c.put_field-named.ensures) c.put_flag-flagged.ensures) c.put_second-described.ensures)
    c.put_byte.ensures)
