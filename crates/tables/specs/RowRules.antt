-- The last rules of a row, as the code asks them one after the other. Document 01, "The numbers of refusal": 10 to 12.
use Rattle.std.specs.Prelude.{ℕ, ◌+◌, ◌*◌, ◌≤◌, ◌<◌, Bool, not, ◌&&◌, List, length, Result, Ok}
use Rattle.rules.specs.Texts.{Text, at_most}
use Rattle.rules.specs.Rules.{Rule, rule}
use Rattle.rules.specs.Tables.{Row, has_id, has_tag}
use Rattle.rules.specs.Rows.{room_for, last_id, follows, own_tag}
use Rattle.rules.specs.Sheets.{table_count, row_width, row_place}
use Rattle.steps.specs.Faults.{fault_in, or_else}
use Rattle.steps.specs.declared.Fault.{Fault}
use Rattle.steps.specs.declared.RowSaid.{RowSaid}
use Rattle.steps.specs.declared.Step.{Step}
use Rattle.steps.specs.declared.Step.TheVariants as steps
use Rattle.table_sheet.specs.Standing.{Inside}

-- the step, unless one of the rules is broken
unfoldable pub asked : List Rule → Step → Result Step Fault
asked rs s = or_else (fault_in rs) (Ok s)

abbrev pub text_rule : ℕ → Text → Rule
text_rule limit t = rule 10 t (at_most limit t)

abbrev pub id_rule : ℕ → Text → List Row → Rule
id_rule id1 line rs = rule 11 line (not (has_id id1 rs))

abbrev pub room_rule : Text → List Row → Rule
room_rule line rs = rule 12 line (room_for rs)

abbrev pub tag_in_place : ℕ → Text → List Row → Bool
tag_in_place id1 tag rs = follows (last_id rs) id1 && own_tag id1 tag && not (has_tag tag rs)

abbrev pub row_step : RowSaid → Step
row_step said = steps.Row said

-- the rows of a table so far stand in the sheet, and their texts in the file
pub record RowsReady (file sheet : List ℕ) (table rows : ℕ) : Type 0 where
  pub named : table < table_count
  pub room : row_place table 0 + row_width * rows ≤ length sheet
  pub inside : Inside file sheet (row_place table 0) rows
