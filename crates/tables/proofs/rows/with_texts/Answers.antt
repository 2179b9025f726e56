-- `tables::rows::with_texts` meets its contract: the two limits in their order, then what is left to `with_new_id`.
use mathlib.Core.Path.{sym, ap, ◌∙◌}
use Rattle.columns.specs.declared.listing.Span.{Span}
use Rattle.steps.specs.Faults.{refusal}
use Rattle.tables.proofs.Asked.{same_fault, holds, breaks}
use Rattle.tables.proofs.SpanTests.{too_long, short_enough}
use Rattle.tables.proofs.rows.with_texts.Goals as goal

pub returns-then-said-first_limit : goal.returns-then-said-first_limit
returns-then-said-first_limit c rs a b is first-is second_is =
    same_fault c.text_fault.ensures
    ∙ ap (λ (p : Span). refusal 10 p.start) first-is
    ∙ sym (breaks _ _ _ (too_long a first-is _ c.if-said-first_limit.true))

pub returns-then-said-second_limit : goal.returns-then-said-second_limit
returns-then-said-second_limit c rs a b is first-is second_is =
    same_fault c.text_fault-then-said-second_limit.ensures
    ∙ ap (λ (p : Span). refusal 10 p.start) second_is
    ∙ sym (holds _ _ _ (short_enough a first-is _ c.if-said-first_limit.false) ∙ breaks _ _ _ (too_long b second_is _ c.if-said-second_limit.true))

pub returns : goal.returns
returns c rs a b is first-is second_is =
    c.with_new_id.ensures rs is
    ∙ sym (holds _ _ _ (short_enough a first-is _ c.if-said-first_limit.false) ∙ holds _ _ _ (short_enough b second_is _ c.if-said-second_limit.false))
