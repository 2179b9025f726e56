-- `table_text::put_table` meets its contract: name, rows in their order and name again.
-- No loop.
use native.Mathlib.Omega.{arith}
use Prim.Native.Nat.{suc, ◌-◌, ◌≤◌}
use mathlib.Core.Path.{◌≡◌, ap, ◌∙◌}
use lib.ListN.{length, get_or}
use lib.Seq.{length-take-le}
use Rattle.rules.specs.Numbers.{row_limit}
use Rattle.table_text.specs.RowOrder.{row_order}
use Rattle.printing.proofs.PutLaws.{put_then, put_as, put_wider, put_none}
use Rattle.table_text.proofs.ShownTables.{order_low, table_shown}
use Rattle.table_text.proofs.put_table.Goals as goal

pub returns-then-count-eq0 : goal.returns-then-count-eq0
returns-then-count-eq0 c =
    let a = c.args in
    let e : get_or a.sheet.now a.table 0 ≡ 0 = omega arith in
    rw e (put_wider (omega arith) (put_none a.at a.out.now))

pub put_rows-filled-requires : goal.put_rows-filled-requires
put_rows-filled-requires c =
    let a = c.args in
    let p = c.requires in
    let rows = get_or a.sheet.now a.table 0 - 1 in
    let most : rows ≤ row_limit = omega (arith, p.0.counts a.table p.1) in
    let n : length c.list_rows.new.order ≡ rows = c.list_rows.auto.order ∙ length-take-le _ _ most in
    let o : c.list_rows.new.order ≡ row_order a.sheet.now a.table rows =
    c.list_rows.ensures ∙ ap (row_order a.sheet.now a.table) (length-take-le _ _ most) in
    let b = c.put_named-opened.ensures in
    (p.0.size, p.1, omega arith, rw n (p.0.inside a.table p.1), rw (n, o) (order_low a.sheet.now a.table rows), omega (arith, p.2, b.place, b.within))

pub returns : goal.returns
returns c =
    let a = c.args in
    let p = c.requires in
    let count = get_or a.sheet.now a.table 0 in
    let rows = count - 1 in
    let some : count ≡ suc rows = omega arith in
    let most : rows ≤ row_limit = omega (arith, p.0.counts a.table p.1) in
    let n : length c.list_rows.new.order ≡ rows = c.list_rows.auto.order ∙ length-take-le _ _ most in
    let o : c.list_rows.new.order ≡ row_order a.sheet.now a.table rows =
    c.list_rows.ensures ∙ ap (row_order a.sheet.now a.table) (length-take-le _ _ most) in
    put_wider (omega arith)
    (put_as (table_shown a.file.now a.sheet.now a.table count rows _ some o)
    (put_then (put_then c.put_named-opened.ensures c.put_rows-filled.ensures) c.put_named.ensures))
