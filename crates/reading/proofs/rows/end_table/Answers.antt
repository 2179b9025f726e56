-- `reading::rows::end_table` meets its contract.
use mathlib.Core.Path.{refl}
use Rattle.reading.proofs.rows.end_table.Goals as goal

pub returns : goal.returns
returns c = rw (c.moved.ensures, c.rows_in-rows.ensures, c.table_in-place.ensures) (refl, refl)
