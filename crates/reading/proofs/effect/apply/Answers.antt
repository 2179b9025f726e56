-- `reading::effect::apply` meets its contract: each arm does what `effect` says of its step.
use borrow.Author.Rules.{rules}
use mathlib.Core.Path.{◌≡◌, refl, ap, subst, ◌∙◌}
use mathlib.Core.List.{[]}
use lib.ListN.{length}
use Rattle.steps.specs.declared.Step.{Step}
use Rattle.reading.specs.Effects.{Kept, kept, effect, judged_step, Applicable}
use Rattle.reading.proofs.effect.apply.Goals as goal

pub returns-in-Err : goal.returns-in-Err
unfolding effect
returns-in-Err c = (λ from begins. rw c.in-Err.is, rw c.in-Err.is refl)

pub take_row-requires : goal.take_row-requires
take_row-requires c =
    let entry : Kept = let a = c.args in kept a.s a.sheet.now a.seen.now a.marks.now [] in
    let needs-of : (x : Step) → c.in-Ok.step ≡ x → Applicable x (length c.args.file.now) entry = λ x e. subst (λ (y : Step). Applicable y (length c.args.file.now) entry) (ap judged_step c.in-Ok.is ∙ e) c.requires.2 in
    needs-of _ c.in-Row.is

pub end_table-requires : goal.end_table-requires
end_table-requires c =
    let entry : Kept = let a = c.args in kept a.s a.sheet.now a.seen.now a.marks.now [] in
    let needs-of : (x : Step) → c.in-Ok.step ≡ x → Applicable x (length c.args.file.now) entry = λ x e. subst (λ (y : Step). Applicable y (length c.args.file.now) entry) (ap judged_step c.in-Ok.is ∙ e) c.requires.2 in
    needs-of _ c.in-TableEnds.is

pub with_word-requires : goal.with_word-requires
with_word-requires c =
    let entry : Kept = let a = c.args in kept a.s a.sheet.now a.seen.now a.marks.now [] in
    let needs-of : (x : Step) → c.in-Ok.step ≡ x → Applicable x (length c.args.file.now) entry = λ x e. subst (λ (y : Step). Applicable y (length c.args.file.now) entry) (ap judged_step c.in-Ok.is ∙ e) c.requires.2 in
    rw c.tally_in.ensures (needs-of _ c.in-Word.is)

pub overflow_add-s : goal.overflow_add-s
overflow_add-s c =
    let entry : Kept = let a = c.args in kept a.s a.sheet.now a.seen.now a.marks.now [] in
    let needs-of : (x : Step) → c.in-Ok.step ≡ x → Applicable x (length c.args.file.now) entry = λ x e. subst (λ (y : Step). Applicable y (length c.args.file.now) entry) (ap judged_step c.in-Ok.is ∙ e) c.requires.2 in
    let q = (needs-of _ c.in-Phrase.is).4 in
    search rules

pub mark-requires : goal.mark-requires
mark-requires c =
    let entry : Kept = let a = c.args in kept a.s a.sheet.now a.seen.now a.marks.now [] in
    let needs-of : (x : Step) → c.in-Ok.step ≡ x → Applicable x (length c.args.file.now) entry = λ x e. subst (λ (y : Step). Applicable y (length c.args.file.now) entry) (ap judged_step c.in-Ok.is ∙ e) c.requires.2 in
    let q = needs-of _ c.in-Phrase.is in
    (q.2, q.3)

pub with_phrase-requires : goal.with_phrase-requires
with_phrase-requires c =
    let entry : Kept = let a = c.args in kept a.s a.sheet.now a.seen.now a.marks.now [] in
    let needs-of : (x : Step) → c.in-Ok.step ≡ x → Applicable x (length c.args.file.now) entry = λ x e. subst (λ (y : Step). Applicable y (length c.args.file.now) entry) (ap judged_step c.in-Ok.is ∙ e) c.requires.2 in
    let q = needs-of _ c.in-Phrase.is in
    rw c.tally_in-in-Phrase.ensures (q.0, q.1)

pub add-requires : goal.add-requires
add-requires c =
    let entry : Kept = let a = c.args in kept a.s a.sheet.now a.seen.now a.marks.now [] in
    let needs-of : (x : Step) → c.in-Ok.step ≡ x → Applicable x (length c.args.file.now) entry = λ x e. subst (λ (y : Step). Applicable y (length c.args.file.now) entry) (ap judged_step c.in-Ok.is ∙ e) c.requires.2 in
    let q = needs-of _ c.in-SentenceEnds.is in
    rw c.tally_in-tally.ensures (q.2, q.3)

pub overflow_cast-line : goal.overflow_cast-line
overflow_cast-line c =
    let h = c.requires.0 in
    search rules

pub overflow_add-line : goal.overflow_add-line
overflow_add-line c =
    let h = c.requires.1 in
    search rules

pub overflow_cast-line-in-SentenceEnds : goal.overflow_cast-line-in-SentenceEnds
overflow_cast-line-in-SentenceEnds c =
    let h = c.requires.1 in
    search rules

pub hand_out-requires : goal.hand_out-requires
hand_out-requires c =
    let entry : Kept = let a = c.args in kept a.s a.sheet.now a.seen.now a.marks.now [] in
    let needs-of : (x : Step) → c.in-Ok.step ≡ x → Applicable x (length c.args.file.now) entry = λ x e. subst (λ (y : Step). Applicable y (length c.args.file.now) entry) (ap judged_step c.in-Ok.is ∙ e) c.requires.2 in
    (needs-of _ c.in-SentenceEnds.is).0

pub returns-in-Ignored : goal.returns-in-Ignored
unfolding effect
returns-in-Ignored c = (λ from begins. rw (c.in-Ok.is, c.in-Ignored.is), rw (c.in-Ok.is, c.in-Ignored.is) refl)

pub returns-in-Format : goal.returns-in-Format
unfolding effect
returns-in-Format c = (λ from begins. rw (c.in-Ok.is, c.in-Format.is, c.format_read.ensures), rw (c.in-Ok.is, c.in-Format.is) refl)

pub returns-in-TableBegins : goal.returns-in-TableBegins
unfolding effect
returns-in-TableBegins c = (λ from begins. rw (c.in-Ok.is, c.in-TableBegins.is, c.moved.ensures), rw (c.in-Ok.is, c.in-TableBegins.is) refl)

pub returns-in-Row : goal.returns-in-Row
unfolding effect
returns-in-Row c = (
  λ from begins. rw (c.in-Ok.is, c.in-Row.is, c.take_row.ensures.0, c.take_row.ensures.1),
  c.take_row.ensures.2 ∙ rw (c.in-Ok.is, c.in-Row.is) refl,
)

pub returns-in-TableEnds : goal.returns-in-TableEnds
unfolding effect
returns-in-TableEnds c = (
  λ from begins. rw (c.in-Ok.is, c.in-TableEnds.is, c.end_table.ensures.0, c.end_table.ensures.1),
  rw (c.in-Ok.is, c.in-TableEnds.is) refl,
)

pub returns-in-SentenceBegins : goal.returns-in-SentenceBegins
unfolding effect
returns-in-SentenceBegins c = (
  λ from begins. rw (c.in-Ok.is, c.in-SentenceBegins.is, c.moved-in-SentenceBegins.ensures, c.first_tally-tally.ensures),
  rw (c.in-Ok.is, c.in-SentenceBegins.is) refl,
)

pub returns-in-Word : goal.returns-in-Word
unfolding effect
returns-in-Word c = (
  λ from begins. rw (c.in-Ok.is, c.in-Word.is, c.moved-in-Word.ensures, c.with_word.ensures, c.tally_in.ensures),
  rw (c.in-Ok.is, c.in-Word.is) refl,
)

pub returns-in-Phrase : goal.returns-in-Phrase
unfolding effect
returns-in-Phrase c = (
  λ from begins. rw (
    c.in-Ok.is,
    c.in-Phrase.is,
    c.moved-in-Phrase.ensures,
    c.with_phrase.ensures,
    c.tally_in-in-Phrase.ensures,
    c.mark.ensures,
  ),
  rw (c.in-Ok.is, c.in-Phrase.is) refl,
)

pub returns-in-SentenceEnds : goal.returns-in-SentenceEnds
unfolding effect
returns-in-SentenceEnds c = (
  λ from begins. rw (c.in-Ok.is, c.in-SentenceEnds.is, c.hand_out.ensures, c.add.ensures, c.tally_in-tally.ensures),
  rw (c.in-Ok.is, c.in-SentenceEnds.is) refl,
)
