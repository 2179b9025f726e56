-- `table_sheet::seek_tag` meets its contract: the rows from here on have the tag exactly if all the rows asked for have it.
use native.Mathlib.Omega.{arith}
use Prim.Native.Nat.{ℕ, ◌+◌, ◌-◌, ◌*◌}
use mathlib.Core.Path.{◌≡◌, sym, ap, ◌∙◌}
use Rattle.rules.specs.Sheets.{row_width}
use Rattle.table_sheet.specs.SheetRows.{rows_from}
use Rattle.table_sheet.specs.LookUps.{tag_among}
use Rattle.table_sheet.proofs.LookUps.{tag_hit, tag_miss, tag_end}
use Rattle.table_sheet.proofs.seek_tag.Goals as goal

pub returns-then-tag_at : goal.returns-then-tag_at
returns-then-tag_at c =
    let a = c.args in
    tag_hit a.tag.now a.file.now a.sheet.now a.place c.loop-row.row a.rows c.loop-row-test.true (sym c.tag_at.ensures ∙ c.if-tag_at.true)

pub loop-row-preserved : goal.loop-row-preserved
loop-row-preserved c =
    let a = c.args in
    let row = c.loop-row.row in
    let next : a.place + row_width * (row + 1) ≡ a.place + row_width * row + row_width = omega arith in
    ap (λ (at : ℕ). tag_among a.tag.now (rows_from a.file.now a.sheet.now at (a.rows - (row + 1)))) next
    ∙ tag_miss a.tag.now a.file.now a.sheet.now (a.place + row_width * row) row a.rows c.loop-row-test.true (sym c.tag_at.ensures ∙ c.if-tag_at.false)
    ∙ c.loop-row.invariant

pub returns : goal.returns
returns c =
    let a = c.args in
    let row = c.loop-row.row in
    sym c.loop-row.invariant ∙ tag_end a.tag.now a.file.now a.sheet.now (a.place + row_width * row) row a.rows c.loop-row-test.false
