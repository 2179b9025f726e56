-- What a step of a line does to the noted outlines of tags and to the hints where their rows are, and what that needs.
use Rattle.std.specs.Prelude.{ℕ, ◌+◌, ◌≤◌, ◌<◌, ◌≡◌, List, ltb, take, drop}
use Rattle.rules.specs.Lists.{pick}
use Rattle.rules.specs.Tables.{word_tags}
use Rattle.rules.specs.Sheets.{table_count}
use Rattle.table_sheet.specs.Outlines.{with_outline}
use Rattle.table_sheet.specs.TagOrders.{with_row}
use Rattle.steps.specs.declared.RowSaid.{RowSaid}
use Rattle.steps.specs.declared.Step.{Step}
use Rattle.steps.specs.declared.Step.TheVariants.{Ignored, Format, TableBegins, Row, TableEnds, SentenceBegins, Word, Phrase, SentenceEnds}
use Rattle.judging.specs.States.{table_open, rows_open}
use Rattle.judging.specs.declared.state.State.{State}

-- the first text of a row, in the file
abbrev pub tag_said : RowSaid → List ℕ → List ℕ
tag_said r file = take r.first.len (drop r.first.start file)

-- one more is noted behind a row
abbrev pub outlines_by : Step → State → List ℕ → List ℕ → List ℕ
outlines_by Ignored s file outlines = outlines
outlines_by (Format n) s file outlines = outlines
outlines_by (TableBegins n) s file outlines = outlines
outlines_by (Row r) s file outlines = with_outline (table_open s.phase) (tag_said r file) outlines
outlines_by TableEnds s file outlines = outlines
outlines_by (SentenceBegins h) s file outlines = outlines
outlines_by (Word n) s file outlines = outlines
outlines_by (Phrase n) s file outlines = outlines
outlines_by SentenceEnds s file outlines = outlines

-- a row of a tag table is hinted at, once its numbers are on the sheet
abbrev pub hints_with : RowSaid → ℕ → ℕ → List ℕ → List ℕ → List ℕ → List ℕ
hints_with r table rows file sheet hints = pick (ltb table word_tags) hints (with_row hints file sheet table rows (tag_said r file))

abbrev pub hints_by : Step → State → List ℕ → List ℕ → List ℕ → List ℕ
hints_by Ignored s file sheet hints = hints
hints_by (Format n) s file sheet hints = hints
hints_by (TableBegins n) s file sheet hints = hints
hints_by (Row r) s file sheet hints = hints_with r (table_open s.phase) (rows_open s.phase) file sheet hints
hints_by TableEnds s file sheet hints = hints
hints_by (SentenceBegins h) s file sheet hints = hints
hints_by (Word n) s file sheet hints = hints
hints_by (Phrase n) s file sheet hints = hints
hints_by SentenceEnds s file sheet hints = hints

-- of a file of this size
abbrev pub TagApplies : Step → State → ℕ → Type 0
TagApplies step s size =
    (r : RowSaid) → step ≡ Row r → (table_open s.phase < table_count) × (r.first.start + r.first.len ≤ size)
