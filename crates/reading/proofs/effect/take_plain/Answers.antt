-- `reading::effect::take_plain` meets its contract: each arm does what `effect` says of the line's step.
use borrow.Author.Rules.{rules}
use mathlib.Core.Path.{◌≡◌, ap, subst, ◌∙◌}
use mathlib.Core.List.{[]}
use Rattle.std.specs.Prelude.{Option, Some}
use Rattle.judging.specs.declared.plain.Plain.{Plain}
use Rattle.reading.specs.Effects.{kept, effect, plain_step, Applicable}
use Rattle.reading.proofs.effect.take_plain.Goals as goal

pub returns-in_default : goal.returns-in_default
unfolding effect
returns-in_default c = λ from at end sheet seen begins. rw c.in_default.is

pub with_word-tally-requires : goal.with_word-tally-requires
with_word-tally-requires c =
    let needs-of : (x : Plain) → c.in-Some.plain ≡ x → Applicable (plain_step (Some x)) 0 (kept c.args.s [] [] c.args.marks.now []) = λ x e. subst (λ (y : Option Plain). Applicable (plain_step y) 0 (kept c.args.s [] [] c.args.marks.now [])) (c.in-Some.is ∙ ap Some e) c.requires in
    rw (c.bare_node.ensures, c.tally_in.ensures) (needs-of _ c.in-Word.is)

pub overflow_add-s : goal.overflow_add-s
overflow_add-s c =
    let needs-of : (x : Plain) → c.in-Some.plain ≡ x → Applicable (plain_step (Some x)) 0 (kept c.args.s [] [] c.args.marks.now []) = λ x e. subst (λ (y : Option Plain). Applicable (plain_step y) 0 (kept c.args.s [] [] c.args.marks.now [])) (c.in-Some.is ∙ ap Some e) c.requires in
    let q = (needs-of _ c.in-Phrase.is).4 in
    search rules

pub mark-requires : goal.mark-requires
mark-requires c =
    let needs-of : (x : Plain) → c.in-Some.plain ≡ x → Applicable (plain_step (Some x)) 0 (kept c.args.s [] [] c.args.marks.now []) = λ x e. subst (λ (y : Option Plain). Applicable (plain_step y) 0 (kept c.args.s [] [] c.args.marks.now [])) (c.in-Some.is ∙ ap Some e) c.requires in
    let q = needs-of _ c.in-Phrase.is in
    (q.2, q.3)

pub with_phrase-tally-requires : goal.with_phrase-tally-requires
with_phrase-tally-requires c =
    let needs-of : (x : Plain) → c.in-Some.plain ≡ x → Applicable (plain_step (Some x)) 0 (kept c.args.s [] [] c.args.marks.now []) = λ x e. subst (λ (y : Option Plain). Applicable (plain_step y) 0 (kept c.args.s [] [] c.args.marks.now [])) (c.in-Some.is ∙ ap Some e) c.requires in
    let q = needs-of _ c.in-Phrase.is in
    rw (c.bare_node-in-Phrase.ensures, c.tally_in-in-Phrase.ensures) (q.0, q.1)

pub returns-in-Word : goal.returns-in-Word
unfolding effect
returns-in-Word c = λ from at end sheet seen begins. rw (c.in-Some.is, c.in-Word.is, c.moved.ensures, c.with_word-tally.ensures, c.bare_node.ensures, c.tally_in.ensures)

pub returns-in-Phrase : goal.returns-in-Phrase
unfolding effect
returns-in-Phrase c = λ from at end sheet seen begins. rw (c.in-Some.is, c.in-Phrase.is, c.moved-in-Phrase.ensures, c.with_phrase-tally.ensures, c.bare_node-in-Phrase.ensures, c.tally_in-in-Phrase.ensures, c.mark.ensures)
