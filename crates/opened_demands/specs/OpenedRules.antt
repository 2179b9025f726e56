-- Document 01, "The numbers of refusal", of openings as they are called: 1 and 2 come first and change no buffer; else what is
-- answered and what each buffer then holds, the list as the plain numbers of its records (rules/Layout).
use Rattle.std.specs.Prelude.{ℕ, ◌≡◌, ◌↔◌, true, false, List, ◌∷◌, ◌++◌, None, Some}
use Rattle.rules.specs.Lists.{member}
use Rattle.rules.specs.Sentences.{Sentence}
use Rattle.rules.specs.Reading.{Handed, numbers}
use Rattle.rules.specs.Sheets.{table_sheet, seen_set}
use Rattle.rules.specs.Survey.{survey_of}
use Rattle.rules.specs.SentenceFrom.{sentence_from}
use Rattle.rules.specs.LentBuffers.{WithinLimit, TooLong}
use Rattle.opened_demands.specs.Calls.{FlatSized, AllFlatSized, Left, left, LeftThere, left_there, nothing, opened_with}

-- ---- by the sentence's number

-- table sheet and seen set as a survey fills them
abbrev pub surveyed : List ℕ → LeftThere → Left
surveyed file o =
    left o.answer (table_sheet (survey_of file).tables) (seen_set (numbers (survey_of file).handed)) o.sheet o.edges

pub record OpenedByNumber (file : List ℕ) (n : ℕ) (tables seen sheet edges : List ℕ) (o : Left) : Type 0 where
  pub wrong_size : (AllFlatSized tables seen sheet edges → ⊥) → o ≡ left 1 tables seen sheet edges
  pub too_long : AllFlatSized tables seen sheet edges → TooLong file → o ≡ left 2 tables seen sheet edges
  -- 0 exactly if the number is among those handed out
  pub exactly : AllFlatSized tables seen sheet edges → WithinLimit file
      → (o.answer ≡ 0) ↔ (member n (numbers (survey_of file).handed) ≡ true)
  -- then sheet and list are that sentence's
  pub given : AllFlatSized tables seen sheet edges → WithinLimit file
      → (front : List Handed) (h : Handed) (back : List Handed) → (survey_of file).handed ≡ front ++ (h ∷ back)
      → h.sentence.heading.number ≡ n → o ≡ surveyed file (opened_with h.sentence)
  -- else 24 with zeros
  pub absent : AllFlatSized tables seen sheet edges → WithinLimit file → member n (numbers (survey_of file).handed) ≡ false
      → o ≡ surveyed file nothing

-- ---- by the place of its first line

pub record OpenedAtPlace (file : List ℕ) (at : ℕ) (sheet edges : List ℕ) (o : LeftThere) : Type 0 where
  pub wrong_size : (FlatSized sheet edges → ⊥) → o ≡ left_there 1 sheet edges
  pub too_long : FlatSized sheet edges → TooLong file → o ≡ left_there 2 sheet edges
  -- 0 exactly if a sentence begins there
  pub exactly : FlatSized sheet edges → WithinLimit file
      → (o.answer ≡ 0) ↔ ((s : Sentence) × (sentence_from file at ≡ Some s))
  pub given : FlatSized sheet edges → WithinLimit file → (s : Sentence) → sentence_from file at ≡ Some s → o ≡ opened_with s
  pub absent : FlatSized sheet edges → WithinLimit file → sentence_from file at ≡ None → o ≡ nothing
