-- `reading::effect::note_end` meets its contract.
use Prim.Native.Nat.{ℕ}
use mathlib.Core.Path.{◌≡◌, refl}
use mathlib.Core.List.{List}
use Rattle.steps.specs.declared.Step.{Step}
use Rattle.steps.specs.declared.Step.TheVariants.{Ignored, Format, TableBegins, Row, TableEnds, SentenceBegins, Word, Phrase, SentenceEnds}
use Rattle.judging.specs.declared.state.State.{State}
use Rattle.reading.specs.Effects.{effect, noted_by}
use Rattle.reading.proofs.effect.note_end.Goals as goal

none_noted : (from : ℕ) (y : Step) (s : State) (begins : List ℕ) → (y ≡ SentenceEnds → ⊥) → begins ≡ noted_by from y s begins
unfolding effect
none_noted from Ignored s begins o = refl
none_noted from (Format n) s begins o = refl
none_noted from (TableBegins n) s begins o = refl
none_noted from (Row r) s begins o = refl
none_noted from TableEnds s begins o = refl
none_noted from (SentenceBegins h) s begins o = refl
none_noted from (Word n) s begins o = refl
none_noted from (Phrase n) s begins o = refl
none_noted from SentenceEnds s begins o = absurd (o refl)

pub returns-in_default : goal.returns-in_default
unfolding effect
returns-in_default c = rw c.in_default.is refl

pub returns-in_default-step : goal.returns-in_default-step
returns-in_default-step c = let a = c.args in rw c.in-Ok.is (none_noted a.from c.in-Ok.step a.s a.begins.now c.in_default-step.not-SentenceEnds)

pub note_beginning-requires : goal.note_beginning-requires
note_beginning-requires c = rw c.tally_in.ensures c.requires

pub returns : goal.returns
unfolding effect
returns c = rw (c.in-Ok.is, c.in-SentenceEnds.is, c.note_beginning.ensures, c.tally_in.ensures)
