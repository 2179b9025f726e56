-- Document 01, "The numbers of refusal", of a writing with lent buffers, and demand 2 of what it has written: granted exactly
-- if the file is accepted and its tidy text fits; a refused writing changes nothing in the output, a granted one only its
-- first bytes.
use Rattle.std.specs.Prelude.{ℕ, ◌≤◌, ◌≡◌, ◌↔◌, List, length, take, drop, replicate}
use Rattle.rules.specs.Sheets.{EdgeRecord}
use Rattle.rules.specs.Survey.{survey_of, after_survey}
use Rattle.rules.specs.Same.{SameTables, SameSentences}
use Rattle.rules.specs.Writing.{tidy_of, WritingOutcome}
use Rattle.rules.specs.Layout.{zero_record}
use Rattle.rules.specs.LentBuffers.{AllSized, WithinLimit, TooLong}

-- the tidy text is no longer than the output and the file limit
pub record HasRoom (file output : List ℕ) : Type 0 where
  pub in_output : length (tidy_of file) ≤ length output
  pub in_limit : length (tidy_of file) ≤ 268435456

-- ---- what a writing leaves behind, whatever it answers, with buffers of their sizes and a file within the limit

pub record BuffersAfter (file tables seen : List ℕ) (o : WritingOutcome) : Type 0 where
  pub table_sheet_lem : o.tables ≡ (after_survey file tables seen).tables
  pub seen_set_lem : o.seen ≡ (after_survey file tables seen).seen
  pub sentence_sheet_lem : o.sheet ≡ replicate 11009 0
  pub edge_list_lem : o.edges ≡ replicate 512 zero_record

-- the output's first bytes are the tidy text and the rest is as lent; the length written is that of the text, the place
-- the file's length; taken as a file, those first bytes are accepted with the same tables and sentences
pub record GrantedWriting (file output : List ℕ) (o : WritingOutcome) : Type 0 where
  pub place : o.answer.place ≡ length file
  pub written : o.answer.written ≡ length (tidy_of file)
  pub text : take o.answer.written o.output ≡ tidy_of file
  pub rest : drop o.answer.written o.output ≡ drop o.answer.written output
  pub size : length o.output ≡ length output
  pub accepted : (survey_of (take o.answer.written o.output)).refusal ≡ 0
  pub tables : SameTables (take o.answer.written o.output) file
  pub sentences : SameSentences (take o.answer.written o.output) file

-- ---- the rule

pub record WritingRule (file tables seen sheet : List ℕ) (edges : List EdgeRecord) (output : List ℕ) (o : WritingOutcome) : Type 0 where
  pub wrong_size : (AllSized tables seen sheet edges → ⊥)
      → o ≡ record { answer = record { refusal = 1; place = 0; written = 0 }; tables = tables; seen = seen; sheet = sheet; edges = edges; output = output }
  pub too_long : AllSized tables seen sheet edges → TooLong file
      → o ≡ record { answer = record { refusal = 2; place = 0; written = 0 }; tables = tables; seen = seen; sheet = sheet; edges = edges; output = output }
  pub buffers : AllSized tables seen sheet edges → WithinLimit file → BuffersAfter file tables seen o
  pub exactly : AllSized tables seen sheet edges → WithinLimit file → (o.answer.refusal ≡ 0) ↔ (((survey_of file).refusal ≡ 0) × HasRoom file output)
  pub granted : o.answer.refusal ≡ 0 → GrantedWriting file output o
  pub no_room : AllSized tables seen sheet edges → WithinLimit file → (survey_of file).refusal ≡ 0 → (HasRoom file output → ⊥)
      → o.answer ≡ record { refusal = 25; place = length file; written = 0 }
  pub refused : AllSized tables seen sheet edges → WithinLimit file → ((survey_of file).refusal ≡ 0 → ⊥)
      → o.answer ≡ record { refusal = (survey_of file).refusal; place = (survey_of file).place; written = 0 }
  pub untouched : (o.answer.refusal ≡ 0 → ⊥) → o.output ≡ output
