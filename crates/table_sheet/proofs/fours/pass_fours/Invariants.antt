-- `table_sheet::fours::pass_fours` meets its contract: from here on the rows give the answer of all the rows asked for.
use Prim.Native.Nat.{ℕ, ◌+◌, ◌-◌, ◌*◌}
use mathlib.Core.Path.{◌≡◌}
use mathlib.Core.List.{List}
use Rattle.table_sheet.specs.SheetRows.{rows_from}
use Rattle.table_sheet.specs.LookUps.{id_from, id_found}
use Rattle.table_sheet.proofs.fours.pass_fours.Given as goal

abbrev pub invariant-loop-four : goal.invariant-loop-four
invariant-loop-four l =
    (file : List ℕ) → id_from (4 * l.four) l.id1 (rows_from file l.sheet (l.place + 24 * l.four) (l.rows - 4 * l.four)) ≡ id_found l.id1 (rows_from file l.sheet l.place l.rows)
