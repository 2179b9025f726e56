-- `rows::put_rows` meets its contract: the lines of as many rows as were passed are put.
use Prim.Native.Nat.{◌*◌}
use lib.ListN.{take}
use Rattle.printing.specs.Over.{Put}
use Rattle.table_text.specs.TablesShown.{row_lines, row_most}
use Rattle.table_text.proofs.rows.put_rows.Given as goal

abbrev pub invariant-loop-row : goal.invariant-loop-row
invariant-loop-row l = Put (row_most * l.row-index) (row_lines l.file l.sheet l.table (take l.row-index l.order)) l.at l.initial.out l.end l.out
