-- `tables::tags::tag_in_place` meets its contract: the three tests are made one after the other.
use mathlib.Core.Path.{◌≡◌, sym}
use mathlib.Core.List.{List}
use Rattle.rules.specs.Tables.{Row}
use Rattle.rules.specs.Rows.{last_id, follows}
use Rattle.table_sheet.specs.SheetRows.{rows_from}
use Rattle.table_sheet.proofs.LookUps.{tag_by_bytes}
use Rattle.tables.proofs.tags.tag_in_place.Goals as goal

pub returns-then-not-own_tag : goal.returns-then-not-own_tag
returns-then-not-own_tag c at =
    let rows : List Row = let a = c.args in rows_from a.file.now a.sheet.now a.place a.rows in
    let id-is : follows (last_id rows) c.args.id1 ≡ c.id_follows.result = sym (c.id_follows.ensures c.args.file.now) in
    rw (id-is, c.if-not-id_follows.false, ← (c.own_tag.ensures at), c.if-not-own_tag.true)

pub returns : goal.returns
returns c at =
    let rows : List Row = let a = c.args in rows_from a.file.now a.sheet.now a.place a.rows in
    let id-is : follows (last_id rows) c.args.id1 ≡ c.id_follows.result = sym (c.id_follows.ensures c.args.file.now) in
    rw (id-is, c.if-not-id_follows.false, ← (c.own_tag.ensures at), c.if-not-own_tag.false, tag_by_bytes)
    c.is_new.ensures
