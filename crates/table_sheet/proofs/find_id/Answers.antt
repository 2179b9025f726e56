-- `table_sheet::find_id` meets its contract: from here on the rows give the answer of all the rows asked for.
use native.Mathlib.Omega.{arith}
use Prim.Native.Nat.{ℕ, ◌+◌, ◌-◌, ◌*◌}
use mathlib.Core.Path.{◌≡◌, sym, ap, ◌∙◌}
use Rattle.rules.specs.Sheets.{row_width}
use Rattle.table_sheet.specs.SheetRows.{rows_from}
use Rattle.table_sheet.specs.LookUps.{id_from}
use Rattle.table_sheet.proofs.LookUps.{id_hit, id_miss, id_end}
use Rattle.table_sheet.proofs.find_id.Goals as goal

pub returns-then-sheet-place : goal.returns-then-sheet-place
returns-then-sheet-place c file =
    let a = c.args in
    let row = c.loop-row.row in
    sym (id_hit file a.sheet.now (a.place + row_width * row) row a.rows a.id1 c.loop-row-test.true c.if-sheet-place.true)
    ∙ c.loop-row.invariant file

pub loop-row-preserved : goal.loop-row-preserved
loop-row-preserved c file =
    let a = c.args in
    let row = c.loop-row.row in
    let next : a.place + row_width * (row + 1) ≡ a.place + row_width * row + row_width = omega arith in
    ap (λ (at : ℕ). id_from (row + 1) a.id1 (rows_from file a.sheet.now at (a.rows - (row + 1)))) next
    ∙ id_miss file a.sheet.now (a.place + row_width * row) row a.rows a.id1 c.loop-row-test.true c.if-sheet-place.false
    ∙ c.loop-row.invariant file

pub returns : goal.returns
returns c file =
    let a = c.args in
    let row = c.loop-row.row in
    sym (id_end file a.sheet.now (a.place + row_width * row) row a.rows a.id1 c.loop-row-test.false) ∙ c.loop-row.invariant file
