-- `opening::open_flat` meets its contract.
use borrow.Author.Rules.{rules}
use borrow.Author.Tests.{lt-leb, le-leb}
use mathlib.Core.Path.{◌≡◌, refl, sym, ◌∙◌}
use mathlib.Core.Bool.{true, false}
use lib.ListN.{length}
use Rattle.rules.specs.Survey.{sheets_fit}
use Rattle.survey.proofs.Lent.{fitting}
use Rattle.opening.specs.Promise.{flat_fits, all_flat_fit}
use Rattle.opening.proofs.Lent.{unfit, too_long}
use Rattle.opening.proofs.Opens.{flat_fitting, all_fit_lem, opened_by_number}
use Rattle.opening.proofs.open_flat.Goals as goal

pub returns-then-not-sheets_fit : goal.returns-then-not-sheets_fit
returns-then-not-sheets_fit c =
    let x = c.args in
    let other : sheets_fit x.tables.now x.seen.now ≡ false = sym c.sheets_fit.ensures ∙ c.if-not-sheets_fit.true in (
      unfit x.file.now x.number x.tables.now x.seen.now x.sheet.now x.edges.now
          (sym (all_fit_lem x.tables.now x.seen.now x.sheet.now x.edges.now) ∙ rw other refl),
      refl,
    )

pub returns-then-not-sentence_fits : goal.returns-then-not-sentence_fits
returns-then-not-sentence_fits c =
    let sheets-sized : sheets_fit c.args.tables.now c.args.seen.now ≡ true = sym c.sheets_fit.ensures ∙ c.if-not-sheets_fit.false in
    let x = c.args in
    let other : flat_fits x.sheet.now x.edges.now ≡ false = sym c.sentence_fits.ensures ∙ c.if-not-sentence_fits.true in (
      unfit x.file.now x.number x.tables.now x.seen.now x.sheet.now x.edges.now
          (sym (all_fit_lem x.tables.now x.seen.now x.sheet.now x.edges.now) ∙ rw (sheets-sized, other) refl),
      refl,
    )

pub returns-then-file-gt-FILE_LIMIT : goal.returns-then-file-gt-FILE_LIMIT
returns-then-file-gt-FILE_LIMIT c =
    let sheets-sized : sheets_fit c.args.tables.now c.args.seen.now ≡ true = sym c.sheets_fit.ensures ∙ c.if-not-sheets_fit.false in
    let sentence-sized : flat_fits c.args.sheet.now c.args.edges.now ≡ true = sym c.sentence_fits.ensures ∙ c.if-not-sentence_fits.false in
    let all-sized : all_flat_fit c.args.tables.now c.args.seen.now c.args.sheet.now c.args.edges.now ≡ true = let x = c.args in
    sym (all_fit_lem x.tables.now x.seen.now x.sheet.now x.edges.now) ∙ rw (sheets-sized, sentence-sized) refl in
    let x = c.args in (
      too_long x.file.now x.number x.tables.now x.seen.now x.sheet.now x.edges.now all-sized
          (lt-leb (length x.file.now) 268435456 c.if-file-gt-FILE_LIMIT.true),
      refl,
    )

pub read_file-requires : goal.read_file-requires
read_file-requires c =
    let sheets-sized : sheets_fit c.args.tables.now c.args.seen.now ≡ true = sym c.sheets_fit.ensures ∙ c.if-not-sheets_fit.false in
    let x = c.args in
    let f = fitting x.tables.now x.seen.now sheets-sized in
    (c.if-file-gt-FILE_LIMIT.false, f.0, f.1)

pub open_begun-requires : goal.open_begun-requires
open_begun-requires c =
    let sentence-sized : flat_fits c.args.sheet.now c.args.edges.now ≡ true = sym c.sentence_fits.ensures ∙ c.if-not-sentence_fits.false in
    let x = c.args in
    let f = flat_fitting x.sheet.now x.edges.now sentence-sized in
    (c.if-file-gt-FILE_LIMIT.false, f.0, f.1)

pub returns : goal.returns
returns c =
    let sheets-sized : sheets_fit c.args.tables.now c.args.seen.now ≡ true = sym c.sheets_fit.ensures ∙ c.if-not-sheets_fit.false in
    let sentence-sized : flat_fits c.args.sheet.now c.args.edges.now ≡ true = sym c.sentence_fits.ensures ∙ c.if-not-sentence_fits.false in
    let all-sized : all_flat_fit c.args.tables.now c.args.seen.now c.args.sheet.now c.args.edges.now ≡ true = let x = c.args in
    sym (all_fit_lem x.tables.now x.seen.now x.sheet.now x.edges.now) ∙ rw (sheets-sized, sentence-sized) refl in
    let x = c.args in (
      opened_by_number x.file.now x.number x.tables.now x.seen.now x.sheet.now x.edges.now _ _ _ _ _ _ _ _ all-sized
          (le-leb (length x.file.now) 268435456 c.if-file-gt-FILE_LIMIT.false) c.read_file.ensures refl c.open_begun.ensures,
      search rules,
    )
