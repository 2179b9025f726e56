-- `explaining::explain_place` meets its contract.
use borrow.Author.Tests.{lt-leb, le-leb}
use mathlib.Core.Path.{◌≡◌, sym, ◌∙◌}
use mathlib.Core.Bool.{true}
use lib.ListN.{length}
use Rattle.rules.specs.Survey.{sheets_fit}
use Rattle.explaining.proofs.Lent.{unsized, too_long, too_long_list, explained_whole}
use Rattle.explaining.proofs.explain_place.Goals as goal

pub returns-then-not-sheets_fit : goal.returns-then-not-sheets_fit
returns-then-not-sheets_fit c =
    let x = c.args in
    unsized x.file.now x.list.now x.table x.tag.now x.sheet.now x.seen.now _
    (sym c.sheets_fit.ensures ∙ c.if-not-sheets_fit.true) c.refused.ensures

pub returns-then-file-gt-FILE_LIMIT : goal.returns-then-file-gt-FILE_LIMIT
returns-then-file-gt-FILE_LIMIT c =
    let sized : sheets_fit c.args.sheet.now c.args.seen.now ≡ true = sym c.sheets_fit.ensures ∙ c.if-not-sheets_fit.false in
    let x = c.args in
    too_long x.file.now x.list.now x.table x.tag.now x.sheet.now x.seen.now _ sized
    (lt-leb (length x.file.now) 268435456 c.if-file-gt-FILE_LIMIT.true) c.refused-then-file-gt-FILE_LIMIT.ensures

pub returns-then-list-gt-FILE_LIMIT : goal.returns-then-list-gt-FILE_LIMIT
returns-then-list-gt-FILE_LIMIT c =
    let sized : sheets_fit c.args.sheet.now c.args.seen.now ≡ true = sym c.sheets_fit.ensures ∙ c.if-not-sheets_fit.false in
    let x = c.args in
    too_long_list x.file.now x.list.now x.table x.tag.now x.sheet.now x.seen.now _ sized
    (le-leb (length x.file.now) 268435456 c.if-file-gt-FILE_LIMIT.false) (lt-leb (length x.list.now) 268435456 c.if-list-gt-FILE_LIMIT.true) c.refused-then-list-gt-FILE_LIMIT.ensures

pub explain_read-told-requires : goal.explain_read-told-requires
explain_read-told-requires c =
    let sized : sheets_fit c.args.sheet.now c.args.seen.now ≡ true = sym c.sheets_fit.ensures ∙ c.if-not-sheets_fit.false in
    (sized, c.if-file-gt-FILE_LIMIT.false, c.if-list-gt-FILE_LIMIT.false)

pub returns : goal.returns
returns c =
    let sized : sheets_fit c.args.sheet.now c.args.seen.now ≡ true = sym c.sheets_fit.ensures ∙ c.if-not-sheets_fit.false in
    let x = c.args in
    explained_whole x.file.now x.list.now x.table x.tag.now x.sheet.now x.seen.now _ sized
    (le-leb (length x.file.now) 268435456 c.if-file-gt-FILE_LIMIT.false) (le-leb (length x.list.now) 268435456 c.if-list-gt-FILE_LIMIT.false) c.explain_read-told.ensures
    c.explain_read-told.new.sheet c.explain_read-told.new.seen _ _
    c.explain_read-told.auto.sheet c.explain_read-told.auto.seen c.clear.ensures c.clear-2.ensures
