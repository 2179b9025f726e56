-- `survey::survey` meets its contract.
use borrow.Author.Tests.{lt-leb, le-leb}
use mathlib.Core.Path.{◌≡◌, sym, ◌∙◌}
use mathlib.Core.Bool.{true}
use lib.ListN.{length}
use Rattle.rules.specs.Survey.{sheets_fit}
use Rattle.survey.proofs.Lent.{unsized, too_long, read_whole, fitting}
use Rattle.survey.proofs.survey.Goals as goal

pub returns-then-not-sheets_fit : goal.returns-then-not-sheets_fit
returns-then-not-sheets_fit c =
    let x = c.args in
    unsized x.file.now x.sheet.now x.seen.now _ (sym c.sheets_fit.ensures ∙ c.if-not-sheets_fit.true) c.nothing_read.ensures

pub returns-then-file-gt-FILE_LIMIT : goal.returns-then-file-gt-FILE_LIMIT
returns-then-file-gt-FILE_LIMIT c =
    let sized : sheets_fit c.args.sheet.now c.args.seen.now ≡ true = sym c.sheets_fit.ensures ∙ c.if-not-sheets_fit.false in
    let x = c.args in
    too_long x.file.now x.sheet.now x.seen.now _ sized (lt-leb (length x.file.now) 268435456 c.if-file-gt-FILE_LIMIT.true) c.nothing_read-then-file-gt-FILE_LIMIT.ensures

pub read_file-requires : goal.read_file-requires
read_file-requires c =
    let sized : sheets_fit c.args.sheet.now c.args.seen.now ≡ true = sym c.sheets_fit.ensures ∙ c.if-not-sheets_fit.false in
    let x = c.args in
    let f = fitting x.sheet.now x.seen.now sized in
    (c.if-file-gt-FILE_LIMIT.false, f.0, f.1)

pub returns : goal.returns
returns c =
    let sized : sheets_fit c.args.sheet.now c.args.seen.now ≡ true = sym c.sheets_fit.ensures ∙ c.if-not-sheets_fit.false in
    let x = c.args in
    read_whole x.file.now x.sheet.now x.seen.now _ _ _ _ _ _ _ sized (le-leb (length x.file.now) 268435456 c.if-file-gt-FILE_LIMIT.false) c.from.ensures c.read_file.ensures
