-- The index, the opening of the sentence that begins at a place, and what the one gives for the other, with lent buffers: 1 and
-- 2 come first and change no buffer; else what is answered and what each buffer then holds. Sizes are those printed.
use Rattle.std.specs.Prelude.{ℕ, ◌+◌, ◌≤◌, ◌<◌, ◌≡◌, ◌↔◌, false, List, ◌∷◌, ◌++◌, length, take, get_or, replicate, None, Some}
use Rattle.rules.specs.Lists.{member}
use Rattle.rules.specs.Sentences.{Sentence}
use Rattle.rules.specs.Reading.{Handed, numbers}
use Rattle.rules.specs.Sheets.{sentence_sheet, EdgeRecord, edge_list}
use Rattle.rules.specs.Survey.{survey_of, after_survey}
use Rattle.rules.specs.Index.{after_indexing}
use Rattle.rules.specs.SentenceFrom.{sentence_from}
use Rattle.rules.specs.Opening.{Opened, after_opening, OpenedAt, after_opening_at}
use Rattle.rules.specs.Layout.{zero_record}
use Rattle.rules.specs.LentBuffers.{SheetsSized, AllSized, WithinLimit, TooLong, told_nothing}

-- ---- the index: a survey, and one more than the place where each sentence handed out begins

pub record IndexSized (tables seen places : List ℕ) : Type 0 where
  pub sheets : SheetsSized tables seen
  pub index : length places ≡ 65536

pub record IndexRule (file tables seen places : List ℕ) : Type 0 where
  pub wrong_size : (IndexSized tables seen places → ⊥)
      → after_indexing file tables seen places ≡ record { answer = told_nothing 1; tables = tables; seen = seen; places = places }
  pub too_long : IndexSized tables seen places → TooLong file
      → after_indexing file tables seen places ≡ record { answer = told_nothing 2; tables = tables; seen = seen; places = places }
  -- answer, table sheet and seen set are the survey's
  pub answer : IndexSized tables seen places → WithinLimit file → (after_indexing file tables seen places).answer ≡ (after_survey file tables seen).answer
  pub table_sheet_lem : IndexSized tables seen places → WithinLimit file → (after_indexing file tables seen places).tables ≡ (after_survey file tables seen).tables
  pub seen_set_lem : IndexSized tables seen places → WithinLimit file → (after_indexing file tables seen places).seen ≡ (after_survey file tables seen).seen
  pub size : IndexSized tables seen places → WithinLimit file → length (after_indexing file tables seen places).places ≡ 65536
  -- of each sentence handed out one more than its place, at its number; zeros elsewhere
  pub its : IndexSized tables seen places → WithinLimit file
      → (front : List Handed) (h : Handed) (back : List Handed) → (survey_of file).handed ≡ front ++ (h ∷ back)
      → get_or (after_indexing file tables seen places).places h.sentence.heading.number 0 ≡ h.sentence.start + 1
  pub no_other : IndexSized tables seen places → WithinLimit file
      → (n : ℕ) → member n (numbers (survey_of file).handed) ≡ false → get_or (after_indexing file tables seen places).places n 0 ≡ 0

-- ---- the opening of the sentence that begins at a place

pub record SentenceSized (sheet : List ℕ) (edges : List EdgeRecord) : Type 0 where
  pub sentence_sheet_lem : length sheet ≡ 11009
  pub edge_list_lem : length edges ≡ 512

abbrev pub nothing_there : OpenedAt
nothing_there = record { answer = 24; sheet = replicate 11009 0; edges = replicate 512 zero_record }

pub record OpeningAtRule (file : List ℕ) (at : ℕ) (sheet : List ℕ) (edges : List EdgeRecord) : Type 0 where
  pub wrong_size : (SentenceSized sheet edges → ⊥) → after_opening_at file at sheet edges ≡ record { answer = 1; sheet = sheet; edges = edges }
  pub too_long : SentenceSized sheet edges → TooLong file → after_opening_at file at sheet edges ≡ record { answer = 2; sheet = sheet; edges = edges }
  -- 0 exactly if a sentence begins there
  pub exactly : SentenceSized sheet edges → WithinLimit file
      → ((after_opening_at file at sheet edges).answer ≡ 0) ↔ ((s : Sentence) × (sentence_from file at ≡ Some s))
  -- then sheet and list are that sentence's
  pub given : SentenceSized sheet edges → WithinLimit file → (s : Sentence) → sentence_from file at ≡ Some s
      → after_opening_at file at sheet edges ≡ record { answer = 0; sheet = sentence_sheet s; edges = edge_list s }
  -- else 24 with zeros
  pub absent : SentenceSized sheet edges → WithinLimit file → sentence_from file at ≡ None → after_opening_at file at sheet edges ≡ nothing_there

-- ---- at a place that the index gives for a number stands the sentence that an opening gives for it

-- what an opening answers, and leaves of the sentence
abbrev pub opened_part : Opened → OpenedAt
opened_part o = record { answer = o.answer; sheet = o.sheet; edges = o.edges }

pub record OpenedThere (file : List ℕ) (n : ℕ) (tables seen places : List ℕ) : Type 0 where
  -- the entry of the number is one more than a place: the very same is left there, and it is a sentence
  pub same : (at : ℕ) → get_or (after_indexing file tables seen places).places n 0 ≡ at + 1
      → (ts used sheet : List ℕ) (edges : List EdgeRecord) → AllSized ts used sheet edges
      → after_opening_at file at sheet edges ≡ opened_part (after_opening file n ts used sheet edges)
  pub found : (at : ℕ) → get_or (after_indexing file tables seen places).places n 0 ≡ at + 1
      → (sheet : List ℕ) (edges : List EdgeRecord) → SentenceSized sheet edges → (after_opening_at file at sheet edges).answer ≡ 0
  -- the entry is 0: there is no such sentence
  pub absent : get_or (after_indexing file tables seen places).places n 0 ≡ 0
      → (ts used sheet : List ℕ) (edges : List EdgeRecord) → AllSized ts used sheet edges
      → opened_part (after_opening file n ts used sheet edges) ≡ nothing_there

-- of a file f whose first n bytes are kept, with x behind them: a sentence h of f that ends in the kept part is opened at its
-- place as it was; if nothing follows, any other is answered by 24
pub record CutOpeningAt (f : List ℕ) (n : ℕ) (x : List ℕ) (h : Handed) (sheet : List ℕ) (edges : List EdgeRecord) : Type 0 where
  pub kept : h.end ≤ n
      → after_opening_at (take n f ++ x) h.sentence.start sheet edges ≡ record { answer = 0; sheet = sentence_sheet h.sentence; edges = edge_list h.sentence }
  pub lost : n < h.end → after_opening_at (take n f) h.sentence.start sheet edges ≡ nothing_there
