-- `writing::write_flat` meets its contract: a wrong size, a file too long, a file that is refused, or what its text allows.
use borrow.Author.Tests.{lt-leb, le-leb}
use Prim.Native.Nat.{ℕ, ◌+◌, ◌*◌, ◌≤◌}
use mathlib.Core.Path.{◌≡◌, refl, sym, ap, ◌∙◌, subst}
use mathlib.Core.Bool.{true}
use mathlib.Core.List.{List}
use lib.ListN.{length, length-replicate}
use Rattle.rules.specs.Numbers.{row_limit}
use Rattle.rules.specs.Survey.{survey_of, file_fits}
use Rattle.rules.specs.Index.{index_size}
use Rattle.tidy_length.proofs.TidyRoom.{tidy_room}
use Rattle.reading.specs.declared.Read.{Read}
use Rattle.survey.proofs.Lent.{fitting}
use Rattle.sentences.proofs.Answers.{cleared}
use Rattle.opening.specs.Promise.{all_flat_fit}
use Rattle.writing.proofs.WaysOut.{Sized, sizes, unfit, too_long, refused, written}
use Rattle.writing.proofs.ReadFiles.{answer_is, tables_are, seen_is, told_tables, begins_ready, begins_few, text_is}
use Rattle.writing.proofs.write_flat.Goals as goal

pub returns-then-not-buffers_fit : goal.returns-then-not-buffers_fit
returns-then-not-buffers_fit c = unfit _ _ _ _ _ _ _ (sym c.buffers_fit.ensures ∙ c.if-not-buffers_fit.true) refl

pub returns-then-file-gt-FILE_LIMIT : goal.returns-then-file-gt-FILE_LIMIT
returns-then-file-gt-FILE_LIMIT c =
    let sized : all_flat_fit c.args.tables.now c.args.seen.now c.args.sheet.now c.args.edges.now ≡ true = sym c.buffers_fit.ensures ∙ c.if-not-buffers_fit.false in
    too_long _ _ _ _ _ _ _ sized (lt-leb _ 268435456 c.if-file-gt-FILE_LIMIT.true) refl

pub read_file-read-requires : goal.read_file-read-requires
read_file-read-requires c =
    let sized : all_flat_fit c.args.tables.now c.args.seen.now c.args.sheet.now c.args.edges.now ≡ true = sym c.buffers_fit.ensures ∙ c.if-not-buffers_fit.false in
    let all-sized : Sized c.args.tables.now c.args.seen.now c.args.sheet.now c.args.edges.now = sizes _ _ _ _ sized in
    let f = fitting c.args.tables.now c.args.seen.now all-sized.sheets in
    (c.if-file-gt-FILE_LIMIT.false, f.0, f.1)

pub returns-then-read-ne0 : goal.returns-then-read-ne0
returns-then-read-ne0 c =
    let sized : all_flat_fit c.args.tables.now c.args.seen.now c.args.sheet.now c.args.edges.now ≡ true = sym c.buffers_fit.ensures ∙ c.if-not-buffers_fit.false in
    let all-sized : Sized c.args.tables.now c.args.seen.now c.args.sheet.now c.args.edges.now = sizes _ _ _ _ sized in
    let fits : file_fits c.args.file.now ≡ true = le-leb (length c.args.file.now) 268435456 c.if-file-gt-FILE_LIMIT.false in
    let f = c.read_file-read.ensures in
    let answer = answer_is c.args.file.now fits _ _ _ _ _ f in
    refused _ _ _ _ _ _ _ sized _ _ _ _ fits (tables_are c.args.file.now fits _ _ _ _ _ f) (seen_is c.args.file.now fits _ _ _ _ _ f)
    (cleared c.clear.ensures all-sized.sheet_size) (cleared c.clear-2.ensures all-sized.edges_size)
    (λ z. c.if-read-ne0.true (ap (λ (x : Read). x.refusal) answer ∙ z))
    (ap (λ (x : Read). record { refusal = x.refusal; place = x.place; written = 0 }) answer)

pub write_read-requires : goal.write_read-requires
write_read-requires c =
    let sized : all_flat_fit c.args.tables.now c.args.seen.now c.args.sheet.now c.args.edges.now ≡ true = sym c.buffers_fit.ensures ∙ c.if-not-buffers_fit.false in
    let all-sized : Sized c.args.tables.now c.args.seen.now c.args.sheet.now c.args.edges.now = sizes _ _ _ _ sized in
    let fits : file_fits c.args.file.now ≡ true = le-leb (length c.args.file.now) 268435456 c.if-file-gt-FILE_LIMIT.false in
    let accepted-by : c.read_file-read.result.refusal ≡ 0 → (survey_of c.args.file.now).refusal ≡ 0 = λ e. sym (ap (λ (x : Read). x.refusal) (answer_is c.args.file.now fits _ _ _ _ _ c.read_file-read.ensures)) ∙ e in
    let f = c.read_file-read.ensures in
    let long = length-replicate {A = ℕ} index_size 0 in
    let accepted = accepted-by c.if-read-ne0.false in (
      c.if-file-gt-FILE_LIMIT.false,
      told_tables c.args.file.now fits _ _ _ _ _ f,
      begins_ready c.args.file.now fits _ _ _ _ _ f long,
      begins_few c.args.file.now fits _ _ _ _ _ f long,
      cleared c.clear.ensures all-sized.sheet_size,
      cleared c.clear-2.ensures all-sized.edges_size,
      subst (λ (t : List ℕ). length t ≤ length c.args.file.now + 2 * row_limit) (text_is c.args.file.now fits _ _ _ _ _ f long accepted) (tidy_room c.args.file.now accepted),
    )

pub returns : goal.returns
returns c =
    let sized : all_flat_fit c.args.tables.now c.args.seen.now c.args.sheet.now c.args.edges.now ≡ true = sym c.buffers_fit.ensures ∙ c.if-not-buffers_fit.false in
    let fits : file_fits c.args.file.now ≡ true = le-leb (length c.args.file.now) 268435456 c.if-file-gt-FILE_LIMIT.false in
    let accepted-by : c.read_file-read.result.refusal ≡ 0 → (survey_of c.args.file.now).refusal ≡ 0 = λ e. sym (ap (λ (x : Read). x.refusal) (answer_is c.args.file.now fits _ _ _ _ _ c.read_file-read.ensures)) ∙ e in
    let f = c.read_file-read.ensures in
    let long = length-replicate {A = ℕ} index_size 0 in
    let accepted = accepted-by c.if-read-ne0.false in
    let done = c.write_read.ensures in
    written _ _ _ _ _ _ _ sized _ _ _ _ fits (tables_are c.args.file.now fits _ _ _ _ _ f) (seen_is c.args.file.now fits _ _ _ _ _ f)
    done.1 done.2 accepted _ _ (text_is c.args.file.now fits _ _ _ _ _ f long accepted) done.0
