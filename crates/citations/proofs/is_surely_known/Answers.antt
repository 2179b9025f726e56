-- `citations::is_surely_known` meets its contract: -- is known, and any tag of an absent table; else the row that the hint
-- names has the tag.
use native.Mathlib.Omega.{arith}
use Prim.Native.Nat.{ℕ, ◌-◌}
use mathlib.Core.Path.{sym, ap, subst, ◌∙◌}
use lib.ListN.{get_or, take, drop}
use Rattle.rules.specs.Texts.{Text}
use Rattle.rules.specs.Sheets.{row_place}
use Rattle.table_sheet.specs.SheetRows.{rows_from, tables_in}
use Rattle.table_sheet.specs.LookUps.{tag_among}
use Rattle.table_sheet.specs.Standing.{Inside}
use Rattle.citations.proofs.TablesThere.{table_absent, table_there, rows_in_sheet, known_dashes, known_absent, known_row}
use Rattle.citations.proofs.is_surely_known.Goals as goal

pub returns-then-is_dashes : goal.returns-then-is_dashes
returns-then-is_dashes c e at =
    let tag : ℕ → Text = λ at. record { start = at; bytes = take c.args.len (drop c.args.start c.args.file.now) } in
    known_dashes (tables_in c.args.file.now c.args.sheet.now) c.args.table (tag at) (c.is_dashes.ensures c.if-is_dashes.true)

pub returns-then-count-eq0 : goal.returns-then-count-eq0
returns-then-count-eq0 c e at =
    let tag : ℕ → Text = λ at. record { start = at; bytes = take c.args.len (drop c.args.start c.args.file.now) } in
    known_absent (tables_in c.args.file.now c.args.sheet.now) c.args.table (tag at) (table_absent c.args.file.now c.args.sheet.now c.args.table c.requires.1 c.if-count-eq0.true)

pub has_tag-requires : goal.has_tag-requires
has_tag-requires c =
    let n = c.args.table in
    let room = rows_in_sheet c.args.file.now c.args.sheet.now n c.requires.1 c.requires.0.counted c.if-count-eq0.false in (
      c.requires.1,
      rw c.row_place-place.ensures room,
      subst (λ (p : ℕ). Inside c.args.file.now c.args.sheet.now p (get_or c.args.sheet.now n 0 - 1)) (sym c.row_place-place.ensures) (c.requires.0.inside n c.requires.1),
      c.requires.2,
      omega arith,
    )

pub returns : goal.returns
returns c e at =
    let tag : ℕ → Text = λ at. record { start = at; bytes = take c.args.len (drop c.args.start c.args.file.now) } in
    let n = c.args.table in
    let rows = get_or c.args.sheet.now n 0 - 1 in
    known_row (tables_in c.args.file.now c.args.sheet.now) n (tag at) (rows_from c.args.file.now c.args.sheet.now (row_place n 0) rows)
    (table_there c.args.file.now c.args.sheet.now n c.requires.1 c.if-count-eq0.false)
    (ap (λ (p : ℕ). tag_among (tag at).bytes (rows_from c.args.file.now c.args.sheet.now p rows)) (sym c.row_place-place.ensures) ∙ c.has_tag.ensures e)
