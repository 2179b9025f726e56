-- `table_sheet::find_by_halves` meets its contract: a row that has the tag will do, wherever it stands; else the rows are
-- looked through.
use mathlib.Core.Path.{sym, ◌∙◌}
use Rattle.table_sheet.proofs.LookUps.{tag_hit}
use Rattle.table_sheet.proofs.find_by_halves.Goals as goal

pub returns-then-tag_at : goal.returns-then-tag_at
returns-then-tag_at c =
    let a = c.args in
    tag_hit a.tag.now a.file.now a.sheet.now a.place c.row_by_halves-near.result a.rows c.if-near-rows.true
    (sym c.tag_at.ensures ∙ c.if-tag_at.true)
