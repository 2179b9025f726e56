-- `rows::put_rows` meets its contract: the lines of as many rows as were passed are put.
use native.Mathlib.Omega.{arith}
use Prim.Native.Nat.{ℕ, ◌+◌, ◌*◌, ◌≤◌, ◌<◌}
use mathlib.Core.Path.{◌≡◌, ap, ◌∙◌}
use mathlib.Core.List.{List, ◌++◌}
use lib.ListN.{length, get_or, take}
use Rattle.printing.proofs.PutLaws.{put_then, put_as, put_wider, put_none}
use Rattle.table_sheet.specs.SheetRows.{row_at}
use Rattle.table_text.proofs.RowTexts.{row_more}
use Rattle.rules.specs.Lists.{Each}
use Rattle.rules.proofs.Rooms.{each_at}
use Rattle.rules.specs.Sheets.{row_place}
use Rattle.rules.specs.Tidy.{row_line}
use Rattle.table_text.specs.TablesShown.{row_lines}
use Rattle.table_text.proofs.rows.put_rows.Goals as goal

low : (order : List ℕ) (i : ℕ) → Each (λ (k : ℕ). k < length order) order → i < length order → get_or order i 0 < length order
low order i each h = each_at (λ (k : ℕ). k < length order) order i 0 each h

pub loop-row-init : goal.loop-row-init
loop-row-init c = put_none c.args.at c.args.out.now

pub put_row-end-requires : goal.put_row-end-requires
put_row-end-requires c =
    let a = c.args in
    let l = c.loop-row in
    let j = get_or a.order.now l.row-index 0 in
    let below : j < length a.order.now = low a.order.now l.row-index c.requires.4 (omega arith) in
    let p : row_place a.table 0 + 6 * j ≡ row_place a.table j = omega arith in
    let few : row_place a.table j + 6 ≤ length a.sheet.now = omega (arith, c.requires.0, c.requires.1, c.requires.2) in
    rw c.row_place-place.ensures (few, rw p at (c.requires.3 j below), omega (arith, l.invariant.place, l.invariant.within, c.requires.5))

pub loop-row-preserved : goal.loop-row-preserved
loop-row-preserved c =
    let a = c.args in
    let l = c.loop-row in
    put_wider (omega arith)
    (put_as
    (ap (λ (p : ℕ). row_lines a.file.now a.sheet.now a.table (take l.row-index a.order.now) ++ row_line a.table (row_at a.file.now a.sheet.now p)) c.row_place-place.ensures
    ∙ row_more (λ (j : ℕ). row_line a.table (row_at a.file.now a.sheet.now (row_place a.table j))) a.order.now l.row-index (omega arith))
    (put_then l.invariant c.put_row-end.ensures))
