-- `citations::has_row` meets its contract: an absent table has no rows, and the rows of another are looked through.
use Rattle.std.specs.Prelude.{Option, is_some}
use Rattle.rules.specs.Tables.{Row, has_id, rows_of}
use Rattle.table_sheet.specs.SheetRows.{rows_from}
use Rattle.table_sheet.proofs.LookUps.{id_found_lem}
use Rattle.citations.proofs.TablesThere.{table_absent, table_there, rows_in_sheet}
use Prim.Native.Nat.{ℕ, ◌+◌, ◌-◌, ◌*◌, ◌≤◌}
use mathlib.Core.Path.{◌≡◌, sym, ap, ◌∙◌}
use mathlib.Core.Bool.{Bool}
use mathlib.Core.List.{List, []}
use lib.ListN.{length, get_or}
use Rattle.rules.specs.Sheets.{row_width}
use Rattle.citations.specs.Tabled.{rows_in}
use Rattle.citations.proofs.has_row.Goals as goal

abbrev among : ℕ → Option (List Row) → Bool
among id1 rows = has_id id1 (rows_of rows)

pub returns-then-count-eq0 : goal.returns-then-count-eq0
unfolding has_id
returns-then-count-eq0 c file = sym (ap (among c.args.id1) (table_absent file c.args.sheet.now c.args.table c.requires.1 c.if-count-eq0.true))

pub returns-then-counts_up_to : goal.returns-then-counts_up_to
returns-then-counts_up_to c file =
    let in_table : (file : List ℕ) → let a = c.args in has_id a.id1 (rows_from file a.sheet.now c.row_place-place.result (get_or a.sheet.now a.table 0 - 1)) ≡ has_id a.id1 (rows_in file a.sheet.now a.table) = λ file. let a = c.args in
    let rows = get_or a.sheet.now a.table 0 - 1 in
    ap (λ (p : ℕ). has_id a.id1 (rows_from file a.sheet.now p rows)) c.row_place-place.ensures
    ∙ sym (ap (among a.id1) (table_there file a.sheet.now a.table c.requires.1 c.if-count-eq0.false)) in
    sym (sym (in_table file) ∙ c.counts_up_to.ensures c.if-counts_up_to.true file)

pub returns : goal.returns
returns c file =
    let in_table : (file : List ℕ) → let a = c.args in has_id a.id1 (rows_from file a.sheet.now c.row_place-place.result (get_or a.sheet.now a.table 0 - 1)) ≡ has_id a.id1 (rows_in file a.sheet.now a.table) = λ file. let a = c.args in
    let rows = get_or a.sheet.now a.table 0 - 1 in
    ap (λ (p : ℕ). has_id a.id1 (rows_from file a.sheet.now p rows)) c.row_place-place.ensures
    ∙ sym (ap (among a.id1) (table_there file a.sheet.now a.table c.requires.1 c.if-count-eq0.false)) in
    let a = c.args in
    c.is_some.ensures
    ∙ ap is_some (c.find_id.ensures file)
    ∙ id_found_lem a.id1 (rows_from file a.sheet.now c.row_place-place.result (get_or a.sheet.now a.table 0 - 1))
    ∙ in_table file

pub counts_up_to-requires : goal.counts_up_to-requires
counts_up_to-requires c =
    let room : c.row_place-place.result + row_width * (get_or c.args.sheet.now c.args.table 0 - 1) ≤ length c.args.sheet.now = rw c.row_place-place.ensures (rows_in_sheet [] c.args.sheet.now c.args.table c.requires.1 c.requires.0 c.if-count-eq0.false) in
    room

pub find_id-requires : goal.find_id-requires
find_id-requires c =
    let room : c.row_place-place.result + row_width * (get_or c.args.sheet.now c.args.table 0 - 1) ≤ length c.args.sheet.now = rw c.row_place-place.ensures (rows_in_sheet [] c.args.sheet.now c.args.table c.requires.1 c.requires.0 c.if-count-eq0.false) in
    room
