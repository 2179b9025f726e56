-- `reading::rows::put_row` meets its contract: the row's numbers are put, then a tag's row is noted.
use borrow.Author.Tests.{lt-ltb, le-ltb}
use native.Mathlib.Omega.{arith}
use Prim.Native.Nat.{ℕ, ◌+◌, ◌-◌, ◌≤◌, ◌<◌}
use mathlib.Core.Path.{◌≡◌, refl, ap, ◌∙◌}
use mathlib.Core.List.{List}
use lib.ListN.{take, drop}
use Rattle.rules.specs.Sheets.{row_place}
use Rattle.columns.specs.Splices.{splice}
use Rattle.table_sheet.specs.TagOrders.{with_row}
use Rattle.steps.specs.declared.RowSaid.{RowSaid}
use Rattle.reading.specs.Effects.{six_of}
use Rattle.reading.specs.NotedTags.{tag_said, hints_with}
use Rattle.reading.proofs.rows.put_row.Goals as goal

module _ (row : RowSaid) (table rows : ℕ) (file sheet hints : List ℕ) where
  unhinted : table < 2 → hints ≡ hints_with row table rows file sheet hints
  unhinted h = rw (lt-ltb table 2 h) refl

  hinted : 2 ≤ table → (left tag : List ℕ) → tag ≡ tag_said row file → left ≡ with_row hints file sheet table rows tag
      → left ≡ hints_with row table rows file sheet hints
  hinted h left tag e l = rw (le-ltb table 2 h) (l ∙ ap (with_row hints file sheet table rows) e)

pub returns-then-table-lt-WORD_TAGS : goal.returns-then-table-lt-WORD_TAGS
returns-then-table-lt-WORD_TAGS c =
    let put : let a = c.args in c.put.new.sheet ≡ splice (row_place a.table a.rows) (six_of a.row) a.sheet.now = let a = c.args in
    c.put.ensures ∙ ap (λ (place : ℕ). splice place (six_of a.row) a.sheet.now) c.row_place.ensures in
    let a = c.args in
    (put, unhinted a.row a.table a.rows a.file.now c.put.new.sheet a.hints.now c.if-table-lt-WORD_TAGS.true)

pub returns : goal.returns
returns c =
    let put : let a = c.args in c.put.new.sheet ≡ splice (row_place a.table a.rows) (six_of a.row) a.sheet.now = let a = c.args in
    c.put.ensures ∙ ap (λ (place : ℕ). splice place (six_of a.row) a.sheet.now) c.row_place.ensures in
    let a = c.args in
    let start = a.row.first.start in
    let len = a.row.first.len in
    let m : start + len - start ≡ len = omega arith in (
      put,
      hinted a.row a.table a.rows a.file.now c.put.new.sheet a.hints.now (omega (arith, c.if-table-lt-WORD_TAGS.false)) _ _
          (ap (λ (n : ℕ). take n (drop start a.file.now)) m) c.note_row.ensures,
    )
