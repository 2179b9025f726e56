-- `table_sheet::quick::has_by_halves` meets its contract: a row that has the tag will do, wherever it stands.
use native.Mathlib.Nat.{add-sub_cancel_left}
use Prim.Native.Nat.{◌+◌, ◌*◌}
use mathlib.Core.Path.{◌≡◌, sym, ◌∙◌}
use lib.ListN.{take, drop}
use Rattle.rules.specs.Lists.{same}
use Rattle.rules.specs.Sheets.{row_width}
use Rattle.table_sheet.specs.SheetRows.{row_at, rows_from}
use Rattle.std.specs.Prelude.{Some}
use Rattle.table_sheet.proofs.LookUps.{tag_hit, tag_found}
use Rattle.table_sheet.proofs.quick.has_by_halves.Goals as goal

pub returns : goal.returns
returns c e =
    let a = c.args in
    let row = c.row_by_halves-row.result in
    let tag = take a.len (drop a.start a.file.now) in
    let told : c.tag_at.result ≡ same tag (row_at a.file.now a.sheet.now (a.place + row_width * row)).first.bytes =
    c.tag_at.ensures ∙ rw add-sub_cancel_left in
    sym (tag_found tag (rows_from a.file.now a.sheet.now a.place a.rows) (Some row)
    (tag_hit tag a.file.now a.sheet.now a.place row a.rows c.if-rows-row.false (sym told ∙ e)))
