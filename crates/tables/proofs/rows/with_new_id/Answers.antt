-- `tables::rows::with_new_id` meets its contract: whether a row has the id, and then whether there is room.
use mathlib.Core.Path.{◌≡◌, sym, ap, ◌∙◌}
use mathlib.Core.Bool.{not}
use mathlib.Core.List.{List}
use lib.ListN.{length}
use Rattle.rules.specs.Tables.{Row, has_id}
use Rattle.std.specs.Prelude.{is_some}
use Rattle.table_sheet.specs.LookUps.{id_found}
use Rattle.table_sheet.proofs.LookUps.{id_found_lem}
use Rattle.tables.proofs.Asked.{same_fault, holds, breaks}
use Rattle.tables.proofs.RowsSoFar.{rows_counted}
use Rattle.tables.proofs.rows.with_new_id.Goals as goal

pub returns-then-is_some : goal.returns-then-is_some
returns-then-is_some c rs e =
    let a = c.args in
    let taken : c.is_some.result ≡ has_id a.said.id1 rs = c.is_some.ensures
    ∙ ap is_some (c.find_id.ensures a.line.now.file.now)
    ∙ ap (λ (l : List Row). is_some (id_found a.said.id1 l)) (sym e)
    ∙ id_found_lem a.said.id1 rs in
    same_fault c.line_fault.ensures ∙ sym (breaks _ _ _ (ap not (sym taken ∙ c.if-is_some.true)))

pub returns : goal.returns
returns c rs e =
    let a = c.args in
    let taken : c.is_some.result ≡ has_id a.said.id1 rs = c.is_some.ensures
    ∙ ap is_some (c.find_id.ensures a.line.now.file.now)
    ∙ ap (λ (l : List Row). is_some (id_found a.said.id1 l)) (sym e)
    ∙ id_found_lem a.said.id1 rs in
    c.with_room.ensures rs (ap length e ∙ rows_counted a.line.now.file.now a.sheet.now a.place a.rows)
    ∙ sym (holds _ _ _ (ap not (sym taken ∙ c.if-is_some.false)))
