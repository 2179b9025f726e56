-- `reading::effect::note_tag` meets its contract.
use borrow.Author.Rules.{rules}
use native.Mathlib.Nat.{add-sub_cancel_left}
use Prim.Native.Nat.{ℕ, ◌+◌, ◌≤◌, ◌<◌}
use mathlib.Core.Path.{◌≡◌, refl, ap, ap₂, ◌∙◌}
use mathlib.Core.List.{List}
use lib.ListN.{length, take, drop}
use Rattle.rules.specs.Sheets.{table_count}
use Rattle.table_sheet.specs.Outlines.{with_outline}
use Rattle.steps.specs.declared.Step.{Step}
use Rattle.steps.specs.declared.RowSaid.{RowSaid}
use Rattle.steps.specs.declared.Step.TheVariants.{Ignored, Format, TableBegins, Row, TableEnds, SentenceBegins, Word, Phrase, SentenceEnds}
use Rattle.judging.specs.States.{table_open}
use Rattle.judging.specs.declared.state.State.{State}
use Rattle.reading.specs.Effects.{judged_step}
use Rattle.reading.specs.NotedTags.{outlines_by}
use Rattle.reading.proofs.effect.note_tag.Goals as goal

none_noted : (y : Step) (s : State) (file outlines : List ℕ) → ((r : RowSaid) → y ≡ Row r → ⊥) → outlines ≡ outlines_by y s file outlines
none_noted Ignored s file outlines o = refl
none_noted (Format n) s file outlines o = refl
none_noted (TableBegins n) s file outlines o = refl
none_noted (Row r) s file outlines o = absurd (o r refl)
none_noted TableEnds s file outlines o = refl
none_noted (SentenceBegins h) s file outlines o = refl
none_noted (Word n) s file outlines o = refl
none_noted (Phrase n) s file outlines o = refl
none_noted SentenceEnds s file outlines o = refl

pub returns-in_default-step : goal.returns-in_default-step
returns-in_default-step c = let a = c.args in rw c.in-Ok.is (none_noted c.in-Ok.step a.s a.file.now a.outlines.now c.in_default-step.not-Row)

pub slice_bounds-note-start : goal.slice_bounds-note-start
slice_bounds-note-start c =
    let fits : let r = c.in-Row.row in (table_open c.args.s.phase < table_count) × (r.first.start + r.first.len ≤ length c.args.file.now) = c.requires _ (ap judged_step c.in-Ok.is ∙ c.in-Row.is) in
    let h = fits.1 in search rules

pub slice_bounds-note-end : goal.slice_bounds-note-end
slice_bounds-note-end c =
    let fits : let r = c.in-Row.row in (table_open c.args.s.phase < table_count) × (r.first.start + r.first.len ≤ length c.args.file.now) = c.requires _ (ap judged_step c.in-Ok.is ∙ c.in-Row.is) in
    let h = fits.1 in search rules

pub note-requires : goal.note-requires
note-requires c =
    let fits : let r = c.in-Row.row in (table_open c.args.s.phase < table_count) × (r.first.start + r.first.len ≤ length c.args.file.now) = c.requires _ (ap judged_step c.in-Ok.is ∙ c.in-Row.is) in
    rw c.table_in.ensures fits.0

pub returns : goal.returns
returns c =
    let a = c.args in
    let first = c.in-Row.row.first in
    rw (c.in-Ok.is, c.in-Row.is)
    (c.note.ensures
    ∙ ap₂ (λ (n len : ℕ). with_outline n (take len (drop first.start a.file.now)) a.outlines.now) c.table_in.ensures
    (add-sub_cancel_left first.start first.len))
