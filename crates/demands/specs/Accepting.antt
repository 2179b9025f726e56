-- Demand 2, said of a file that survey accepts: it contains what is read of it and nothing else, and the buffers hold that.
use Rattle.std.specs.Prelude.{ℕ, ◌≡◌, List}
use Rattle.rules.specs.Reading.{numbers}
use Rattle.rules.specs.Sheets.{table_sheet, seen_set}
use Rattle.rules.specs.Survey.{survey_of}
use Rattle.rules.specs.GrammarNumbers.{sentence_range}
use Rattle.rules.specs.GrammarContent.{Content}
use Rattle.rules.specs.GrammarSurvey.{content_of}
use Rattle.rules.specs.Grammar.{Contains}

pub record ReadAsWritten (file tables_left seen_left : List ℕ) : Type 0 where
  pub contains : Contains sentence_range file (content_of (survey_of file))
  pub only : (content : Content) → Contains sentence_range file content → content_of (survey_of file) ≡ content
  pub tables : tables_left ≡ table_sheet (survey_of file).tables
  pub seen : seen_left ≡ seen_set (numbers (survey_of file).handed)
