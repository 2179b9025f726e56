-- `table_sheet::quick::has_long` meets its contract: the row has as many bytes, and they are the same.
use Rattle.table_sheet.proofs.LookUps.{tag_among_lem}
use Rattle.table_sheet.proofs.quick.has_long.Goals as goal

pub returns : goal.returns
returns c e =
    let a = c.args in
    let told = c.has_length.ensures (c.if-not-has_length.false) in
    tag_among_lem a.file.now a.sheet.now a.place c.row_near-row.result a.rows a.start c.start_of-first.result a.len
    told.0
    told.1
    c.start_of-first.ensures
    (c.same_places.ensures e)
