-- `tables::tags::tag_row` meets its contract: the rules of the line in their order.
use mathlib.Core.Path.{◌∙◌}
use mathlib.Core.List.{[]}
use Rattle.tables.proofs.Asked.{same_fault}
use Rattle.tables.proofs.RowsSoFar.{rows_counted}
use Rattle.tables.proofs.TagRows.{none_described, tag_column, flag_column, bad_id, bad_tag, bad_flag_column, bad_flag, long_description, out_of_place, row_left}
use Rattle.tables.proofs.tags.tag_row.Goals as goal

-- ---- the needs

pub column_text-tag-requires : goal.column_text-tag-requires
column_text-tag-requires c =
    tag_column c.args.line.now c.args.table [] c.text_from-described.ensures c.description_column.ensures c.if-described-eq0.false

pub column_span-first-requires : goal.column_span-first-requires
column_span-first-requires c =
    tag_column c.args.line.now c.args.table [] c.text_from-described.ensures c.description_column.ensures c.if-described-eq0.false

pub read_flag-requires : goal.read_flag-requires
read_flag-requires c =
    flag_column c.args.line.now c.args.table [] c.text_from-described.ensures c.description_column.ensures c.if-described-eq0.false

pub column_fault-requires-in_default-read_flag : goal.column_fault-requires-in_default-read_flag
column_fault-requires-in_default-read_flag c =
    bad_flag_column c.args.line.now c.args.table [] c.text_from-described.ensures c.description_column.ensures c.if-described-eq0.false
    c.column_text.ensures c.read.ensures c.in-Some.is c.column_text-tag.ensures c.column_span-first.ensures c.is_tag.ensures c.if-not-is_tag.false
    c.read_flag.ensures c.in_default-read_flag.is

-- ---- the returns

pub returns-then-described-eq0 : goal.returns-then-described-eq0
returns-then-described-eq0 c =
    same_fault c.line_fault.ensures
    ∙ none_described c.args.line.now c.args.table _ c.text_from-described.ensures c.description_column.ensures c.if-described-eq0.true

pub returns-in_default : goal.returns-in_default
returns-in_default c =
    same_fault c.column_fault.ensures
    ∙ bad_id c.args.line.now c.args.table _ c.text_from-described.ensures c.description_column.ensures c.if-described-eq0.false
    c.column_text.ensures c.read.ensures c.in_default.is

pub returns-then-not-is_tag : goal.returns-then-not-is_tag
returns-then-not-is_tag c =
    same_fault c.text_fault.ensures
    ∙ bad_tag c.args.line.now c.args.table _ c.text_from-described.ensures c.description_column.ensures c.if-described-eq0.false
    c.column_text.ensures c.read.ensures c.in-Some.is c.column_text-tag.ensures c.column_span-first.ensures c.is_tag.ensures c.if-not-is_tag.true

pub returns-in_default-read_flag : goal.returns-in_default-read_flag
returns-in_default-read_flag c =
    same_fault c.column_fault-in_default-read_flag.ensures
    ∙ bad_flag c.args.line.now c.args.table _ c.text_from-described.ensures c.description_column.ensures c.if-described-eq0.false
    c.column_text.ensures c.read.ensures c.in-Some.is c.column_text-tag.ensures c.column_span-first.ensures c.is_tag.ensures c.if-not-is_tag.false
    c.read_flag.ensures c.in_default-read_flag.is

pub returns-then-described-gt-DESCRIPTION_LIMIT : goal.returns-then-described-gt-DESCRIPTION_LIMIT
returns-then-described-gt-DESCRIPTION_LIMIT c =
    same_fault c.text_fault-then-described-gt-DESCRIPTION_LIMIT.ensures
    ∙ long_description c.args.line.now c.args.table _ c.text_from-described.ensures c.description_column.ensures c.if-described-eq0.false
    c.column_text.ensures c.read.ensures c.in-Some.is c.column_text-tag.ensures c.column_span-first.ensures c.is_tag.ensures c.if-not-is_tag.false
    c.read_flag.ensures c.in-Some-read_flag.is c.if-described-gt-DESCRIPTION_LIMIT.true

pub returns-then-not-tag_in_place : goal.returns-then-not-tag_in_place
returns-then-not-tag_in_place c =
    same_fault c.line_fault-then-not-tag_in_place.ensures
    ∙ out_of_place c.args.line.now c.args.table _ c.text_from-described.ensures c.description_column.ensures c.if-described-eq0.false
    c.column_text.ensures c.read.ensures c.in-Some.is c.column_text-tag.ensures c.column_span-first.ensures c.is_tag.ensures c.if-not-is_tag.false
    c.read_flag.ensures c.in-Some-read_flag.is c.if-described-gt-DESCRIPTION_LIMIT.false c.tag_in_place.ensures c.if-not-tag_in_place.true

pub returns : goal.returns
returns c =
    let a = c.args in
    c.with_room.ensures _ (rows_counted a.line.now.file.now a.sheet.now a.place a.rows)
    ∙ row_left c.args.line.now c.args.table _ c.text_from-described.ensures c.description_column.ensures c.if-described-eq0.false
    c.column_text.ensures c.read.ensures c.in-Some.is c.column_text-tag.ensures c.column_span-first.ensures c.is_tag.ensures c.if-not-is_tag.false
    c.read_flag.ensures c.in-Some-read_flag.is c.if-described-gt-DESCRIPTION_LIMIT.false c.tag_in_place.ensures c.if-not-tag_in_place.false
