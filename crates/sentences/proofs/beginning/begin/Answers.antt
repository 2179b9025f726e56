-- `sentences::beginning::begin` meets its contract: one law for each way out.
use borrow.Author.Rules.{rules}
use native.Mathlib.Omega.{arith}
use Prim.Native.Nat.{◌≤◌, ◌<◌}
use mathlib.Core.Path.{◌≡◌, refl, sym, ap, ap₂, ◌∙◌}
use lib.ListN.{length}
use Rattle.rules.specs.Numbers.{file_limit}
use Rattle.rules.specs.Texts.{Text}
use Rattle.rules.specs.Rules.{checked}
use Rattle.rules.specs.Sentences.{heading_written, heading_in}
use Rattle.rules.specs.Keywords.{first_column}
use Rattle.rules.specs.Lines.{taken_as, sentence_begins}
use Rattle.lines.specs.LineEnds.{line_end}
use Rattle.std.specs.Prelude.{Ok}
use Rattle.lines.proofs.Lines.{at_below}
use Rattle.columns.specs.Listing as listing
use Rattle.columns.specs.Lines.{text_in}
use Rattle.steps.specs.Steps.{step_of}
use Rattle.sentences.proofs.NotOk.{not_ok, ok_alike}
use Rattle.sentences.proofs.ListedLines.{order, inside, limited, read_listed}
use Rattle.sentences.proofs.FirstLines.{begun_unread, begun_other, begun_refused, begun_headed}
use Rattle.sentences.proofs.beginning.begin.Goals as goal

pub returns-in_default : goal.returns-in_default
returns-in_default c =
    let a = c.args in
    let unread = not_ok c.line_end.result c.in_default.not-Ok in
    (begun_unread a.file.now a.place unread.0 (sym c.line_end.ensures ∙ unread.1), refl)

pub read_line-requires : goal.read_line-requires
read_line-requires c =
    let ends : line_end c.args.file.now c.args.place ≡ Ok c.in-Ok.end = sym c.line_end.ensures ∙ c.in-Ok.is in
    let short : length c.args.file.now ≤ file_limit = c.requires.0 in
    (order c.args.file.now c.args.place c.in-Ok.end ends short, inside c.args.file.now c.args.place c.in-Ok.end ends short, limited c.args.file.now c.args.place c.in-Ok.end ends short, short)

pub new-line-requires : goal.new-line-requires
new-line-requires c =
    let ends : line_end c.args.file.now c.args.place ≡ Ok c.in-Ok.end = sym c.line_end.ensures ∙ c.in-Ok.is in
    let short : length c.args.file.now ≤ file_limit = c.requires.0 in
    read_listed c.args.file.now c.args.place c.in-Ok.end ends short _ _ _ c.read_line.ensures

pub returns-then-not-same_text : goal.returns-then-not-same_text
returns-then-not-same_text c =
    let ends : line_end c.args.file.now c.args.place ≡ Ok c.in-Ok.end = sym c.line_end.ensures ∙ c.in-Ok.is in
    let line-is : text_in c.new-line.result ≡ listing.text_between c.args.file.now c.args.place c.in-Ok.end = ap₂ listing.line_of c.new-line.ensures.0 c.new-line.ensures.1 ∙ ap (listing.line_of c.args.file.now) c.read_line.ensures.0 in
    let first-is : c.first_column.result.now ≡ (first_column (listing.text_between c.args.file.now c.args.place c.in-Ok.end)).bytes = c.first_column.ensures ∙ ap (λ (x : Text). (first_column x).bytes) line-is in
    (begun_other c.args.file.now c.args.place c.in-Ok.end ends _ _ first-is c.same_text.ensures (c.if-not-same_text.true), refl)

pub returns-in_default-heading_alone : goal.returns-in_default-heading_alone
returns-in_default-heading_alone c =
    let ends : line_end c.args.file.now c.args.place ≡ Ok c.in-Ok.end = sym c.line_end.ensures ∙ c.in-Ok.is in
    let line-is : text_in c.new-line.result ≡ listing.text_between c.args.file.now c.args.place c.in-Ok.end = ap₂ listing.line_of c.new-line.ensures.0 c.new-line.ensures.1 ∙ ap (listing.line_of c.args.file.now) c.read_line.ensures.0 in
    let first-is : c.first_column.result.now ≡ (first_column (listing.text_between c.args.file.now c.args.place c.in-Ok.end)).bytes = c.first_column.ensures ∙ ap (λ (x : Text). (first_column x).bytes) line-is in
    let told : c.heading_alone.result ≡ step_of (taken_as sentence_begins (checked (heading_written (listing.text_between c.args.file.now c.args.place c.in-Ok.end)) (heading_in (listing.text_between c.args.file.now c.args.place c.in-Ok.end)))) = c.heading_alone.ensures ∙ ap (λ (x : Text). step_of (taken_as sentence_begins (checked (heading_written x) (heading_in x)))) line-is in
    (begun_refused c.args.file.now c.args.place c.in-Ok.end ends _ _ first-is c.same_text.ensures (c.if-not-same_text.false) _ told (λ said h. c.in_default-heading_alone.not-Ok _ h), refl)

pub returns-in_default-step : goal.returns-in_default-step
returns-in_default-step c =
    let ends : line_end c.args.file.now c.args.place ≡ Ok c.in-Ok.end = sym c.line_end.ensures ∙ c.in-Ok.is in
    let line-is : text_in c.new-line.result ≡ listing.text_between c.args.file.now c.args.place c.in-Ok.end = ap₂ listing.line_of c.new-line.ensures.0 c.new-line.ensures.1 ∙ ap (listing.line_of c.args.file.now) c.read_line.ensures.0 in
    let first-is : c.first_column.result.now ≡ (first_column (listing.text_between c.args.file.now c.args.place c.in-Ok.end)).bytes = c.first_column.ensures ∙ ap (λ (x : Text). (first_column x).bytes) line-is in
    let told : c.heading_alone.result ≡ step_of (taken_as sentence_begins (checked (heading_written (listing.text_between c.args.file.now c.args.place c.in-Ok.end)) (heading_in (listing.text_between c.args.file.now c.args.place c.in-Ok.end)))) = c.heading_alone.ensures ∙ ap (λ (x : Text). step_of (taken_as sentence_begins (checked (heading_written x) (heading_in x)))) line-is in
    (begun_refused c.args.file.now c.args.place c.in-Ok.end ends _ _ first-is c.same_text.ensures (c.if-not-same_text.false) _ told (λ said h. c.in_default-step.not-SentenceBegins said (ok_alike (sym c.in-Ok-heading_alone.is ∙ h))), refl)

pub put_heading-requires : goal.put_heading-requires
put_heading-requires c = omega (arith, c.requires.2)

pub overflow_add-result : goal.overflow_add-result
overflow_add-result c =
    let ends : line_end c.args.file.now c.args.place ≡ Ok c.in-Ok.end = sym c.line_end.ensures ∙ c.in-Ok.is in
    let short : length c.args.file.now ≤ file_limit = c.requires.0 in
    let below : c.in-Ok.end < length c.args.file.now = at_below c.args.file.now c.args.place c.in-Ok.end ends in
    let b = below in
    let w = short in
    search rules

pub overflow_cast-place : goal.overflow_cast-place
overflow_cast-place c =
    let ends : line_end c.args.file.now c.args.place ≡ Ok c.in-Ok.end = sym c.line_end.ensures ∙ c.in-Ok.is in
    let short : length c.args.file.now ≤ file_limit = c.requires.0 in
    let below : c.in-Ok.end < length c.args.file.now = at_below c.args.file.now c.args.place c.in-Ok.end ends in
    let b = below in
    let a = order c.args.file.now c.args.place c.in-Ok.end ends short in
    let w = short in
    search rules

pub returns : goal.returns
returns c =
    let ends : line_end c.args.file.now c.args.place ≡ Ok c.in-Ok.end = sym c.line_end.ensures ∙ c.in-Ok.is in
    let line-is : text_in c.new-line.result ≡ listing.text_between c.args.file.now c.args.place c.in-Ok.end = ap₂ listing.line_of c.new-line.ensures.0 c.new-line.ensures.1 ∙ ap (listing.line_of c.args.file.now) c.read_line.ensures.0 in
    let first-is : c.first_column.result.now ≡ (first_column (listing.text_between c.args.file.now c.args.place c.in-Ok.end)).bytes = c.first_column.ensures ∙ ap (λ (x : Text). (first_column x).bytes) line-is in
    let told : c.heading_alone.result ≡ step_of (taken_as sentence_begins (checked (heading_written (listing.text_between c.args.file.now c.args.place c.in-Ok.end)) (heading_in (listing.text_between c.args.file.now c.args.place c.in-Ok.end)))) = c.heading_alone.ensures ∙ ap (λ (x : Text). step_of (taken_as sentence_begins (checked (heading_written x) (heading_in x)))) line-is in
    begun_headed c.args.file.now c.args.place c.in-Ok.end ends _ _ first-is c.same_text.ensures (c.if-not-same_text.false) _ told _ (c.in-Ok-heading_alone.is ∙ ap Ok c.in-SentenceBegins.is) _ c.first_tally-tally.ensures _ _ c.put_heading.ensures

pub line_end-requires : goal.line_end-requires
line_end-requires c = c.requires.1
