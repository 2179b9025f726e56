-- `explaining::look_up` meets its contract: a table that isn't counted isn't there, one that is has its rows from its place on.
use native.Mathlib.Omega.{arith}
use Prim.Native.Nat.{ℕ, ◌+◌, ◌-◌, ◌*◌, ◌≤◌, ◌<◌}
use mathlib.Core.Path.{◌≡◌, sym, ap, ap₂, subst, ◌∙◌}
use Rattle.std.specs.Prelude.{Option, Some}
use mathlib.Core.List.{List}
use lib.ListN.{length, get_or}
use Rattle.rules.specs.Tables.{Row}
use Rattle.rules.specs.Sheets.{table_count, row_width, row_place}
use Rattle.table_sheet.specs.SheetRows.{rows_from}
use Rattle.table_sheet.specs.Standing.{Inside}
use Rattle.citations.proofs.TablesThere.{rows_in_sheet}
use Rattle.rules.specs.Explaining.{described_in, part_of}
use Rattle.rules.specs.ExplainingRules.{TagsApart, TagTablePlace}
use Rattle.explaining.specs.Promise.{as_explained, tag_count}
use Rattle.explaining.proofs.TagTables.{in_order_lem, uncounted, its_count, its_rows}
use Rattle.explaining.proofs.look_up.Goals as goal

pub tag_count-count-requires : goal.tag_count-count-requires
tag_count-count-requires c = c.requires.tabled.counted.seven

pub returns-then-count-eq0 : goal.returns-then-count-eq0
returns-then-count-eq0 c =
    c.refused.ensures
    ∙ ap (λ (o : Option (List Row)). as_explained (part_of c.args.of (described_in c.args.tag.now o)))
    (sym (uncounted c.args.file.now c.args.sheet.now c.args.table (sym c.tag_count-count.ensures ∙ c.if-count-eq0.true)))

pub overflow_sub-table : goal.overflow_sub-table
overflow_sub-table c =
    let count-is : c.tag_count-count.result ≡ tag_count c.args.sheet.now c.args.table = c.tag_count-count.ensures in
    let there : tag_count c.args.sheet.now c.args.table ≡ 0 → ⊥ = λ z. c.if-count-eq0.false (count-is ∙ z) in
    let place : TagTablePlace (c.args.table - 1) c.args.table = in_order_lem c.args.file.now c.args.sheet.now c.args.table there in
    omega (arith, place.first)

pub row_place-place-requires : goal.row_place-place-requires
row_place-place-requires c =
    let count-is : c.tag_count-count.result ≡ tag_count c.args.sheet.now c.args.table = c.tag_count-count.ensures in
    let there : tag_count c.args.sheet.now c.args.table ≡ 0 → ⊥ = λ z. c.if-count-eq0.false (count-is ∙ z) in
    let place : TagTablePlace (c.args.table - 1) c.args.table = in_order_lem c.args.file.now c.args.sheet.now c.args.table there in
    let below : (c.args.table - 1) < table_count = omega (arith, place.first, place.last) in
    (below, omega arith)

pub describe-requires : goal.describe-requires
describe-requires c =
    let count-is : c.tag_count-count.result ≡ tag_count c.args.sheet.now c.args.table = c.tag_count-count.ensures in
    let there : tag_count c.args.sheet.now c.args.table ≡ 0 → ⊥ = λ z. c.if-count-eq0.false (count-is ∙ z) in
    let place : TagTablePlace (c.args.table - 1) c.args.table = in_order_lem c.args.file.now c.args.sheet.now c.args.table there in
    let below : (c.args.table - 1) < table_count = omega (arith, place.first, place.last) in
    let at_count : c.tag_count-count.result ≡ get_or c.args.sheet.now (c.args.table - 1) 0 = count-is ∙ its_count c.args.file.now c.args.sheet.now c.args.table there in
    let some-rows : get_or c.args.sheet.now (c.args.table - 1) 0 ≡ 0 → ⊥ = λ z. c.if-count-eq0.false (at_count ∙ z) in
    let as_called : (P : ℕ → ℕ → Type 0) → P (row_place (c.args.table - 1) 0) (get_or c.args.sheet.now (c.args.table - 1) 0 - 1) → P c.row_place-place.result (c.tag_count-count.result - 1) = λ P p. subst (λ (at : ℕ). P at (c.tag_count-count.result - 1)) (sym c.row_place-place.ensures)
    (subst (λ (k : ℕ). P (row_place (c.args.table - 1) 0) (k - 1)) (sym at_count) p) in
    let f = c.args.file.now in
    let t = c.args.sheet.now in (
      as_called (λ (at rows : ℕ). at + row_width * rows ≤ length t) (rows_in_sheet f t (c.args.table - 1) below c.requires.tabled.counted some-rows),
      as_called (λ (at rows : ℕ). Inside f t at rows) (c.requires.tabled.inside (c.args.table - 1) below),
      as_called (λ (at rows : ℕ). TagsApart (rows_from f t at rows)) (c.requires.apart (c.args.table - 1) (omega (arith, place.first)) (omega (arith, place.last))),
    )

pub returns : goal.returns
returns c =
    let count-is : c.tag_count-count.result ≡ tag_count c.args.sheet.now c.args.table = c.tag_count-count.ensures in
    let there : tag_count c.args.sheet.now c.args.table ≡ 0 → ⊥ = λ z. c.if-count-eq0.false (count-is ∙ z) in
    c.describe.ensures
    ∙ ap (λ (o : Option (List Row)). as_explained (part_of c.args.of (described_in c.args.tag.now o)))
    (ap₂ (λ (at rows : ℕ). Some (rows_from c.args.file.now c.args.sheet.now at rows)) c.row_place-place.ensures (ap (λ (k : ℕ). k - 1) count-is)
    ∙ sym (its_rows c.args.file.now c.args.sheet.now c.args.table there))
