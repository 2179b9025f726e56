-- Demand 3, said of calls of survey: what a file that was cut hands out, and what its sound part does.
use Rattle.std.specs.Prelude.{ℕ, ◌+◌, ◌≡◌, ◌⊎◌, List, [], ◌++◌, length}
use Rattle.rules.specs.Reading.{Handed, numbers}
use Rattle.rules.specs.Sheets.{table_sheet, seen_set}
use Rattle.rules.specs.Survey.{last_end, survey_of}
use Rattle.rules.specs.Cutting.{ended_within}
use Rattle.survey.specs.declared.Surveyed.{Surveyed}
use Rattle.demands.specs.Surveying.{Surveying, Seen}

-- the first n bytes of f with x behind them: the sentences that end within the n bytes come first, then perhaps others,
-- none if x is empty
pub record Restored (f : List ℕ) (n : ℕ) (x : List ℕ) (cut : Surveying) : Type 0 where
  pub others : List Handed
  pub first : (survey_of cut.file).handed ≡ ended_within n (survey_of f).handed ++ others
  pub count : cut.answer.sentences ≡ length (ended_within n (survey_of f).handed) + length others
  pub alone : x ≡ [] → cut.answer.sentences ≡ length (ended_within n (survey_of f).handed)
  pub sound_end : cut.answer.sound_end ≡ last_end (ended_within n (survey_of f).handed ++ others)
  pub filled : cut.seen_left ≡ seen_set (numbers (ended_within n (survey_of f).handed ++ others))
  pub seen : Seen cut (ended_within n (survey_of f).handed)

-- the first bytes of f up to the sound end of a first call, surveyed again into the same buffers: accepted, and in all else
-- as f
pub record AcceptedAlone (f : List ℕ) (first second : Surveyed) (tables_left seen_left : List ℕ) : Type 0 where
  pub accepted : second.refusal ≡ 0
  pub place : second.place ≡ first.sound_end
  pub sentences : second.sentences ≡ first.sentences
  pub sound_end : second.sound_end ≡ first.sound_end
  pub tables : tables_left ≡ table_sheet (survey_of f).tables
  pub seen : seen_left ≡ seen_set (numbers (survey_of f).handed)

-- unless the sound part is empty
abbrev pub SoundAlone : List ℕ → Surveyed → Surveyed → List ℕ → List ℕ → Type 0
SoundAlone f first second tables_left seen_left = (first.sound_end ≡ 0) ⊎ AcceptedAlone f first second tables_left seen_left
