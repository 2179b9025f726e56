-- `survey::index` meets its contract.
use borrow.Author.Tests.{ne_eqb, lt-leb, le-leb}
use mathlib.Core.Path.{◌≡◌, refl, sym, ◌∙◌}
use mathlib.Core.Bool.{true, false}
use lib.ListN.{length}
use Rattle.rules.specs.Survey.{sheets_fit}
use Rattle.survey.proofs.Lent.{unsized_index, too_long_index, read_index, fitting}
use Rattle.survey.proofs.index.Goals as goal

pub returns-then-not-sheets_fit : goal.returns-then-not-sheets_fit
returns-then-not-sheets_fit c =
    let x = c.args in
    let other : sheets_fit x.sheet.now x.seen.now ≡ false = sym c.sheets_fit.ensures ∙ c.if-not-sheets_fit.true in
    unsized_index x.file.now x.sheet.now x.seen.now x.places.now _ (rw other refl) c.nothing_read.ensures

pub returns-then-places-ne-INDEX_SIZE : goal.returns-then-places-ne-INDEX_SIZE
returns-then-places-ne-INDEX_SIZE c =
    let sized : sheets_fit c.args.sheet.now c.args.seen.now ≡ true = sym c.sheets_fit.ensures ∙ c.if-not-sheets_fit.false in
    let x = c.args in
    unsized_index x.file.now x.sheet.now x.seen.now x.places.now _ (rw (sized, ne_eqb (length x.places.now) 65536 c.if-places-ne-INDEX_SIZE.true) refl)
    c.nothing_read-then-places-ne-INDEX_SIZE.ensures

pub returns-then-file-gt-FILE_LIMIT : goal.returns-then-file-gt-FILE_LIMIT
returns-then-file-gt-FILE_LIMIT c =
    let sized : sheets_fit c.args.sheet.now c.args.seen.now ≡ true = sym c.sheets_fit.ensures ∙ c.if-not-sheets_fit.false in
    let x = c.args in
    too_long_index x.file.now x.sheet.now x.seen.now x.places.now _ sized c.if-places-ne-INDEX_SIZE.false
    (lt-leb (length x.file.now) 268435456 c.if-file-gt-FILE_LIMIT.true) c.nothing_read-then-file-gt-FILE_LIMIT.ensures

pub read_file-requires : goal.read_file-requires
read_file-requires c =
    let sized : sheets_fit c.args.sheet.now c.args.seen.now ≡ true = sym c.sheets_fit.ensures ∙ c.if-not-sheets_fit.false in
    let x = c.args in
    let f = fitting x.sheet.now x.seen.now sized in
    (c.if-file-gt-FILE_LIMIT.false, f.0, f.1)

pub returns : goal.returns
returns c =
    let sized : sheets_fit c.args.sheet.now c.args.seen.now ≡ true = sym c.sheets_fit.ensures ∙ c.if-not-sheets_fit.false in
    let x = c.args in
    read_index x.file.now x.sheet.now x.seen.now x.places.now _ sized c.if-places-ne-INDEX_SIZE.false _ _ _ _
    (le-leb (length x.file.now) 268435456 c.if-file-gt-FILE_LIMIT.false) c.from.ensures c.read_file.ensures
