-- Demand 2, said of a call of survey: what is told of the tidy text of an accepted file f.
use Rattle.std.specs.Prelude.{ℕ, ◌≡◌, List, length}
use Rattle.rules.specs.Reading.{numbers}
use Rattle.rules.specs.Sheets.{seen_set}
use Rattle.rules.specs.Survey.{survey_of}
use Rattle.rules.specs.Same.{SameMeaning}
use Rattle.demands.specs.Surveying.{Surveying}

-- the tidy text is accepted, with the same format, tables and sentences, as many and of the same numbers
pub record TidyAlike (f : List ℕ) (tidy : Surveying) : Type 0 where
  pub accepted : tidy.answer.refusal ≡ 0
  pub same_meaning : SameMeaning tidy.file f
  pub sentences : tidy.answer.sentences ≡ length (survey_of f).handed
  pub seen : tidy.seen_left ≡ seen_set (numbers (survey_of f).handed)
