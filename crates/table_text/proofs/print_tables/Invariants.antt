-- `table_text::print_tables` meets its contract: as many tables as were passed are put.
use Prim.Native.Nat.{◌*◌}
use mathlib.Core.List.{map}
use Rattle.rules.specs.Lists.{counting, joined}
use Rattle.printing.specs.Over.{Put}
use Rattle.table_text.specs.TablesShown.{table_most}
use Rattle.table_text.proofs.ShownTables.{shown}
use Rattle.table_text.proofs.print_tables.Given as goal

abbrev pub invariant-loop-table : goal.invariant-loop-table
invariant-loop-table l = Put (table_most * l.table) (joined (map (shown l.file l.sheet) (counting 0 l.table))) l.at l.initial.out l.end l.out
