-- `citations::is_known` meets its contract: -- and UNKNOWN are known, and any tag of an absent table; else a row has the tag.
use Prim.Native.Nat.{ℕ, ◌-◌}
use mathlib.Core.Path.{sym, ap, subst, ◌∙◌}
use lib.ListN.{get_or}
use Rattle.rules.specs.Texts.{Text}
use Rattle.rules.specs.Sheets.{row_place}
use Rattle.table_sheet.specs.SheetRows.{rows_from, tables_in}
use Rattle.table_sheet.specs.LookUps.{tag_among}
use Rattle.table_sheet.specs.Standing.{Inside}
use Rattle.table_sheet.proofs.LookUps.{tag_found}
use Rattle.citations.proofs.TablesThere.{table_absent, table_there, rows_in_sheet, known_dashes, known_unknown, known_absent, known_there}
use Rattle.citations.proofs.is_known.Goals as goal

pub returns-then-count-eq0 : goal.returns-then-count-eq0
returns-then-count-eq0 c start =
    let tag : ℕ → Text = λ start. record { start = start; bytes = c.args.tag.now } in
    sym (known_absent (tables_in c.args.file.now c.args.sheet.now) c.args.table (tag start) (table_absent c.args.file.now c.args.sheet.now c.args.table c.requires.1 c.if-count-eq0.true))

pub returns-then-is_twice : goal.returns-then-is_twice
returns-then-is_twice c start =
    let tag : ℕ → Text = λ start. record { start = start; bytes = c.args.tag.now } in
    sym (known_dashes (tables_in c.args.file.now c.args.sheet.now) c.args.table (tag start) (sym c.is_twice.ensures ∙ c.if-is_twice.true))

pub returns-then-is_unknown : goal.returns-then-is_unknown
returns-then-is_unknown c start =
    let tag : ℕ → Text = λ start. record { start = start; bytes = c.args.tag.now } in
    sym (known_unknown (tables_in c.args.file.now c.args.sheet.now) c.args.table (tag start) (sym c.is_unknown.ensures ∙ c.if-is_unknown.true))

pub find_tag-requires : goal.find_tag-requires
find_tag-requires c =
    let n = c.args.table in
    let room = rows_in_sheet c.args.file.now c.args.sheet.now n c.requires.1 c.requires.0.counted c.if-count-eq0.false in (
      c.requires.1,
      rw c.row_place-place.ensures room,
      subst (λ (p : ℕ). Inside c.args.file.now c.args.sheet.now p (get_or c.args.sheet.now n 0 - 1)) (sym c.row_place-place.ensures) (c.requires.0.inside n c.requires.1),
    )

pub returns : goal.returns
returns c start =
    let tag : ℕ → Text = λ start. record { start = start; bytes = c.args.tag.now } in
    let n = c.args.table in
    let rows = get_or c.args.sheet.now n 0 - 1 in
    let bytes = c.args.tag.now in
    c.is_some.ensures
    ∙ tag_found bytes (rows_from c.args.file.now c.args.sheet.now c.row_place-place.result rows) c.find_tag.result c.find_tag.ensures
    ∙ ap (λ (p : ℕ). tag_among bytes (rows_from c.args.file.now c.args.sheet.now p rows)) c.row_place-place.ensures
    ∙ sym (known_there (tables_in c.args.file.now c.args.sheet.now) n (tag start) (rows_from c.args.file.now c.args.sheet.now (row_place n 0) rows)
    (table_there c.args.file.now c.args.sheet.now n c.requires.1 c.if-count-eq0.false)
    (sym c.is_twice.ensures ∙ c.if-is_twice.false)
    (sym c.is_unknown.ensures ∙ c.if-is_unknown.false))
