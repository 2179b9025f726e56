-- Document 01, "The numbers of refusal": what a writing answers, and what the buffers lent to it then hold: a refused
-- writing changes nothing in the output, a granted one only its first bytes.
use Rattle.std.specs.Prelude.{ℕ, ◌&&◌, List, ◌++◌, length, drop, leb, eqb}
use Rattle.rules.specs.Lists.{pick}
use Rattle.rules.specs.Numbers.{file_limit}
use Rattle.rules.specs.Reading.{numbers}
use Rattle.rules.specs.Sheets.{table_sheet, seen_set, EdgeRecord}
use Rattle.rules.specs.Survey.{survey_of, file_fits}
use Rattle.rules.specs.Opening.{no_sheet, no_edges, all_fit}
use Rattle.rules.specs.Meaning.{meaning_of}
use Rattle.rules.specs.Tidy.{tidy_text}

unfoldable pub tidy_of : List ℕ → List ℕ
tidy_of file = tidy_text (meaning_of (survey_of file))

-- refusal, place, length written
pub record Written : Type 0 where
  pub refusal : ℕ
  pub place : ℕ
  pub written : ℕ

pub record WritingOutcome : Type 0 where
  pub answer : Written
  pub tables : List ℕ
  pub seen : List ℕ
  pub sheet : List ℕ
  pub edges : List EdgeRecord
  pub output : List ℕ

-- the survey's refusal and place, or 25 with the file length as place
abbrev pub writing_answer : List ℕ → List ℕ → Written
writing_answer file output =
    pick (eqb (survey_of file).refusal 0)
    (pick (leb (length (tidy_of file)) (length output) && leb (length (tidy_of file)) file_limit)
    (record { refusal = 0; place = length file; written = length (tidy_of file) })
    (record { refusal = 25; place = length file; written = 0 }))
    (record { refusal = (survey_of file).refusal; place = (survey_of file).place; written = 0 })

abbrev pub written_over : List ℕ → List ℕ → List ℕ
written_over text output = text ++ drop (length text) output

abbrev pub output_after : List ℕ → List ℕ → List ℕ
output_after file output = pick (eqb (writing_answer file output).refusal 0) (written_over (tidy_of file) output) output

unfoldable pub after_writing : List ℕ → List ℕ → List ℕ → List ℕ → List EdgeRecord → List ℕ → WritingOutcome
after_writing file tables seen sheet edges output =
    pick (all_fit tables seen sheet edges)
    (pick (file_fits file)
    (record {
      answer = writing_answer file output;
      tables = table_sheet (survey_of file).tables;
      seen = seen_set (numbers (survey_of file).handed);
      sheet = no_sheet;
      edges = no_edges;
      output = output_after file output;
    })
    (record { answer = record { refusal = 2; place = 0; written = 0 }; tables = tables; seen = seen; sheet = sheet; edges = edges; output = output }))
    (record { answer = record { refusal = 1; place = 0; written = 0 }; tables = tables; seen = seen; sheet = sheet; edges = edges; output = output })
