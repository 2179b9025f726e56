-- `reading::stopping::give_up` meets its contract.
use native.Mathlib.Omega.{arith}
use Prim.Native.Nat.{ℕ}
use mathlib.Core.Path.{sym, ap, ◌∙◌}
use lib.ListN.{replicate}
use Rattle.columns.specs.Splices.{splice}
use Rattle.judging.specs.States.{table_open}
use Rattle.reading.specs.Closing.{given_up}
use Rattle.judging.specs.declared.state.Phase.{Phase}
use Rattle.reading.proofs.stopping.give_up.Goals as goal

pub row_place-place-requires : goal.row_place-place-requires
row_place-place-requires c = (omega (arith, c.requires.0, ap table_open c.in-InTable.is), omega arith)

pub clear_rows-requires : goal.clear_rows-requires
clear_rows-requires c = omega (arith, c.requires.0, c.requires.1, ap table_open c.in-InTable.is, c.row_place-place.ensures)

pub returns-in-InTable : goal.returns-in-InTable
returns-in-InTable c =
    c.clear_rows.ensures
    ∙ ap (λ (m : ℕ). splice m (replicate 1536 0) c.args.sheet.now) c.row_place-place.ensures
    ∙ ap (λ (y : Phase). given_up y c.args.sheet.now) (sym c.in-InTable.is)
