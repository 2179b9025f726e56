-- `table_text::print_tables` meets its contract: as many tables as were passed are put.
use native.Mathlib.Omega.{arith}
use mathlib.Core.Path.{◌≡◌}
use Rattle.printing.proofs.PutLaws.{put_then, put_as, put_wider, put_none}
use Rattle.table_text.proofs.ShownTables.{shown_more, tables_shown}
use Rattle.table_text.proofs.print_tables.Goals as goal

pub loop-table-init : goal.loop-table-init
loop-table-init c = put_none c.args.at c.args.out.now

pub loop-table-preserved : goal.loop-table-preserved
loop-table-preserved c =
    let a = c.args in
    let l = c.loop-table in
    put_wider (omega arith) (put_as (shown_more a.file.now a.sheet.now l.table) (put_then l.invariant c.put_table-end.ensures))

pub returns : goal.returns
returns c =
    let a = c.args in
    let l = c.loop-table in
    let e : l.table ≡ 7 = omega arith in
    put_as (tables_shown a.file.now a.sheet.now) (rw e at l.invariant)
