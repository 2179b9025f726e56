-- Document 01, "The numbers of refusal", of a writing as it is called: 1 and 2 come first and change no buffer; else what is
-- answered and what each buffer then holds, the list as plain numbers.
use Rattle.std.specs.Prelude.{ℕ, ◌≡◌, ◌↔◌, List, length, take, drop, replicate}
use Rattle.rules.specs.Reading.{numbers}
use Rattle.rules.specs.Sheets.{table_sheet, seen_set}
use Rattle.rules.specs.Survey.{survey_of}
use Rattle.rules.specs.Writing.{tidy_of}
use Rattle.rules.specs.LentBuffers.{WithinLimit, TooLong}
use Rattle.rules.specs.WritingRule.{HasRoom}
use Rattle.opened_demands.specs.Calls.{AllFlatSized}
use Rattle.written_demands.specs.Writings.{TextLeft}

abbrev pub as_lent : ℕ → List ℕ → List ℕ → List ℕ → List ℕ → List ℕ → TextLeft
as_lent n tables seen sheet edges output =
    record {
      refusal = n;
      place = 0;
      written = 0;
      tables = tables;
      seen = seen;
      sheet = sheet;
      edges = edges;
      output = output;
    }

-- table sheet and seen set as a survey fills them, sentence sheet and list zero
pub record SheetsAfter (file : List ℕ) (o : TextLeft) : Type 0 where
  pub table_sheet_lem : o.tables ≡ table_sheet (survey_of file).tables
  pub seen_set_lem : o.seen ≡ seen_set (numbers (survey_of file).handed)
  pub sentence_sheet_lem : o.sheet ≡ replicate 11009 0
  pub edge_list_lem : o.edges ≡ replicate 2048 0

-- the tidy text in front of the output's rest, as lent
pub record TextGranted (file output : List ℕ) (o : TextLeft) : Type 0 where
  pub place : o.place ≡ length file
  pub written : o.written ≡ length (tidy_of file)
  pub text : take o.written o.output ≡ tidy_of file
  pub rest : drop o.written o.output ≡ drop o.written output
  pub size : length o.output ≡ length output

-- refused with a place, nothing written
pub record TextRefused (n place : ℕ) (o : TextLeft) : Type 0 where
  pub refusal : o.refusal ≡ n
  pub place_is : o.place ≡ place
  pub written : o.written ≡ 0

pub record WrittenAsCalled (file tables seen sheet edges output : List ℕ) (o : TextLeft) : Type 0 where
  pub wrong_size : (AllFlatSized tables seen sheet edges → ⊥) → o ≡ as_lent 1 tables seen sheet edges output
  pub too_long : AllFlatSized tables seen sheet edges → TooLong file → o ≡ as_lent 2 tables seen sheet edges output
  pub buffers : AllFlatSized tables seen sheet edges → WithinLimit file → SheetsAfter file o
  -- 0 exactly if the file is accepted and its tidy text fits
  pub exactly : AllFlatSized tables seen sheet edges → WithinLimit file
      → (o.refusal ≡ 0) ↔ (((survey_of file).refusal ≡ 0) × HasRoom file output)
  pub granted : o.refusal ≡ 0 → TextGranted file output o
  pub no_room : AllFlatSized tables seen sheet edges → WithinLimit file → (survey_of file).refusal ≡ 0 → (HasRoom file output → ⊥)
      → TextRefused 25 (length file) o
  pub refused : AllFlatSized tables seen sheet edges → WithinLimit file → ((survey_of file).refusal ≡ 0 → ⊥)
      → TextRefused (survey_of file).refusal (survey_of file).place o
  pub untouched : (o.refusal ≡ 0 → ⊥) → o.output ≡ output
