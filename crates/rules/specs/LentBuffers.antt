-- Document 01, "The numbers of refusal", of a survey and of an opening with lent buffers: 1 and 2 come first and change no
-- buffer; else what is answered and what each buffer then holds. The sizes are those that "The sheets" prints.
use Rattle.std.specs.Prelude.{ℕ, ◌≤◌, ◌<◌, ◌≡◌, ◌↔◌, true, false, List, ◌∷◌, ◌++◌, length, take, replicate}
use Rattle.rules.specs.Lists.{member}
use Rattle.rules.specs.Reading.{Handed, numbers}
use Rattle.rules.specs.Sheets.{table_sheet, seen_set, sentence_sheet, EdgeRecord, edge_list}
use Rattle.rules.specs.Survey.{survey_of, Told, after_survey}
use Rattle.rules.specs.Opening.{after_opening}
use Rattle.rules.specs.Layout.{zero_record}

-- ---- the fixed sizes, and the file limit

pub record SheetsSized (tables seen : List ℕ) : Type 0 where
  pub table_sheet_lem : length tables ≡ 10759
  pub seen_set_lem : length seen ≡ 8192

pub record AllSized (tables seen sheet : List ℕ) (edges : List EdgeRecord) : Type 0 where
  pub sheets : SheetsSized tables seen
  pub sentence_sheet_lem : length sheet ≡ 11009
  pub edge_list_lem : length edges ≡ 512

abbrev pub WithinLimit : List ℕ → Type 0
WithinLimit file = length file ≤ 268435456

abbrev pub TooLong : List ℕ → Type 0
TooLong file = 268435456 < length file

-- ---- a survey

abbrev pub told_nothing : ℕ → Told
told_nothing n = record { refusal = n; place = 0; sentences = 0; sound_end = 0 }

pub record SurveyRule (file tables seen : List ℕ) : Type 0 where
  pub wrong_size : (SheetsSized tables seen → ⊥) → after_survey file tables seen ≡ record { answer = told_nothing 1; tables = tables; seen = seen }
  pub too_long : SheetsSized tables seen → TooLong file → after_survey file tables seen ≡ record { answer = told_nothing 2; tables = tables; seen = seen }
  pub filled : SheetsSized tables seen → WithinLimit file
      → after_survey file tables seen
      ≡ record {
        answer =
            record {
              refusal = (survey_of file).refusal;
              place = (survey_of file).place;
              sentences = length (survey_of file).handed;
              sound_end = (survey_of file).sound_end;
            };
        tables = table_sheet (survey_of file).tables;
        seen = seen_set (numbers (survey_of file).handed);
      }

-- ---- an opening

pub record OpeningRule (file : List ℕ) (n : ℕ) (tables seen sheet : List ℕ) (edges : List EdgeRecord) : Type 0 where
  pub wrong_size : (AllSized tables seen sheet edges → ⊥)
      → after_opening file n tables seen sheet edges ≡ record { answer = 1; tables = tables; seen = seen; sheet = sheet; edges = edges }
  pub too_long : AllSized tables seen sheet edges → TooLong file
      → after_opening file n tables seen sheet edges ≡ record { answer = 2; tables = tables; seen = seen; sheet = sheet; edges = edges }
  -- 0 exactly if the number is among those handed out
  pub exactly : AllSized tables seen sheet edges → WithinLimit file
      → ((after_opening file n tables seen sheet edges).answer ≡ 0) ↔ (member n (numbers (survey_of file).handed) ≡ true)
  -- then sheet and list are that sentence's
  pub given : AllSized tables seen sheet edges → WithinLimit file
      → (front : List Handed) (h : Handed) (back : List Handed) → (survey_of file).handed ≡ front ++ (h ∷ back) → h.sentence.heading.number ≡ n
      → after_opening file n tables seen sheet edges
      ≡ record {
        answer = 0;
        tables = (after_survey file tables seen).tables;
        seen = (after_survey file tables seen).seen;
        sheet = sentence_sheet h.sentence;
        edges = edge_list h.sentence;
      }
  -- else 24 with zeros
  pub absent : AllSized tables seen sheet edges → WithinLimit file → member n (numbers (survey_of file).handed) ≡ false
      → after_opening file n tables seen sheet edges
      ≡ record {
        answer = 24;
        tables = (after_survey file tables seen).tables;
        seen = (after_survey file tables seen).seen;
        sheet = replicate 11009 0;
        edges = replicate 512 zero_record;
      }

-- of a file f whose first n bytes are kept, with x behind them: a sentence h of f that ends in the kept part is opened as
-- it was; if nothing follows, any other is answered by 24
pub record CutOpening (f : List ℕ) (n : ℕ) (x : List ℕ) (h : Handed) (tables seen sheet : List ℕ) (edges : List EdgeRecord) : Type 0 where
  pub kept : h.end ≤ n → (after_opening (take n f ++ x) h.sentence.heading.number tables seen sheet edges).answer ≡ 0
  pub kept_sheet : h.end ≤ n → (after_opening (take n f ++ x) h.sentence.heading.number tables seen sheet edges).sheet ≡ sentence_sheet h.sentence
  pub kept_edges : h.end ≤ n → (after_opening (take n f ++ x) h.sentence.heading.number tables seen sheet edges).edges ≡ edge_list h.sentence
  pub lost : n < h.end → (after_opening (take n f) h.sentence.heading.number tables seen sheet edges).answer ≡ 24
