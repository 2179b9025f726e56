-- `opening::open_flat_at` meets its contract.
use borrow.Author.Rules.{rules}
use borrow.Author.Tests.{lt-leb, le-leb}
use mathlib.Core.Path.{◌≡◌, refl, sym, ◌∙◌}
use mathlib.Core.Bool.{true}
use lib.ListN.{length}
use Rattle.opening.specs.Promise.{flat_fits}
use Rattle.opening.proofs.Lent.{unfit_at, too_long_at, opens_at}
use Rattle.opening.proofs.Opens.{flat_fitting}
use Rattle.opening.proofs.open_flat_at.Goals as goal

pub returns-then-not-sentence_fits : goal.returns-then-not-sentence_fits
returns-then-not-sentence_fits c =
    let x = c.args in
    (unfit_at x.file.now x.place x.sheet.now x.edges.now (sym c.sentence_fits.ensures ∙ c.if-not-sentence_fits.true), refl)

pub returns-then-file-gt-FILE_LIMIT : goal.returns-then-file-gt-FILE_LIMIT
returns-then-file-gt-FILE_LIMIT c =
    let sized : flat_fits c.args.sheet.now c.args.edges.now ≡ true = sym c.sentence_fits.ensures ∙ c.if-not-sentence_fits.false in
    let x = c.args in
    (too_long_at x.file.now x.place x.sheet.now x.edges.now sized (lt-leb (length x.file.now) 268435456 c.if-file-gt-FILE_LIMIT.true), refl)

pub open_there-requires : goal.open_there-requires
open_there-requires c =
    let sized : flat_fits c.args.sheet.now c.args.edges.now ≡ true = sym c.sentence_fits.ensures ∙ c.if-not-sentence_fits.false in
    let x = c.args in
    let f = flat_fitting x.sheet.now x.edges.now sized in
    (c.if-file-gt-FILE_LIMIT.false, f.0, f.1)

pub returns : goal.returns
returns c =
    let sized : flat_fits c.args.sheet.now c.args.edges.now ≡ true = sym c.sentence_fits.ensures ∙ c.if-not-sentence_fits.false in
    let x = c.args in
    (opens_at x.file.now x.place x.sheet.now x.edges.now sized (le-leb (length x.file.now) 268435456 c.if-file-gt-FILE_LIMIT.false) _ _ _ c.open_there.ensures, search rules)
