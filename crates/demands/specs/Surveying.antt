-- One call of survey, and what is said of it: demands 1 and 2.
use Rattle.std.specs.Prelude.{ℕ, ◌≤◌, ◌<◌, ◌≡◌, true, false, List, length}
use Rattle.rules.specs.Lists.{Each}
use Rattle.rules.specs.Numbers.{file_limit}
use Rattle.rules.specs.Reading.{Handed, numbers}
use Rattle.rules.specs.Sheets.{table_sheet, seen_set, sentence_sheet}
use Rattle.rules.specs.Survey.{last_end, survey_of, Told, sheets_fit, after_survey}
use Rattle.rules.specs.Climbing.{Resolves, parent_in, parent_on, EveryChainClimbs}
use Rattle.seen.specs.Bits.{bit_at}
use Rattle.survey.specs.declared.Surveyed.{Surveyed}

-- the number of a sentence handed out
abbrev pub number_of : Handed → ℕ
number_of h = h.sentence.heading.number

-- what was lent, what was answered, and what the buffers then held
pub record Surveying : Type 0 where
  pub file : List ℕ
  pub tables : List ℕ
  pub seen : List ℕ
  pub answer : Surveyed
  pub tables_left : List ℕ
  pub seen_left : List ℕ

abbrev pub surveying : List ℕ → List ℕ → List ℕ → Surveyed → List ℕ → List ℕ → Surveying
surveying file tables seen answer tables_left seen_left =
    record { file = file; tables = tables; seen = seen; answer = answer; tables_left = tables_left; seen_left = seen_left }

-- an answer as the rules have it
abbrev pub told_by : Surveyed → Told
told_by r = record { refusal = r.refusal; place = r.place; sentences = r.sentences; sound_end = r.sound_end }

-- the outcome is the one that the rules define; there is no other
abbrev pub Promised : Surveying → Type 0
Promised c = record { answer = told_by c.answer; tables = c.tables_left; seen = c.seen_left } ≡ after_survey c.file c.tables c.seen

-- both buffers lent have their fixed sizes, and the file is no longer than the limit
pub record Readable (file tables seen : List ℕ) : Type 0 where
  pub sized : sheets_fit tables seen ≡ true
  pub short : length file ≤ file_limit

-- the number of each of these sentences is in the seen set that a call left
abbrev pub Seen : Surveying → List Handed → Type 0
Seen c hs = Each (λ (h : Handed). bit_at c.seen_left (number_of h) ≡ true) hs

-- two calls answer the same and leave the same
pub record SameOutcome (c d : Surveying) : Type 0 where
  pub answer : c.answer ≡ d.answer
  pub tables : c.tables_left ≡ d.tables_left
  pub seen : c.seen_left ≡ d.seen_left

-- refused by a number before anything was read: place, sentences and sound end are 0, and no buffer has changed
pub record Untouched (c : Surveying) (n : ℕ) : Type 0 where
  pub answer : c.answer ≡ record { refusal = n; place = 0; sentences = 0; sound_end = 0 }
  pub tables : c.tables_left ≡ c.tables
  pub seen : c.seen_left ≡ c.seen

-- answered and filled from what is read; in each sentence handed out references resolve and chains of parents climb
pub record Filled (c : Surveying) : Type 0 where
  pub refusal : c.answer.refusal ≡ (survey_of c.file).refusal
  pub place : c.answer.place ≡ (survey_of c.file).place
  pub sentences : c.answer.sentences ≡ length (survey_of c.file).handed
  pub sound_end : c.answer.sound_end ≡ last_end (survey_of c.file).handed
  pub tables : c.tables_left ≡ table_sheet (survey_of c.file).tables
  pub seen : c.seen_left ≡ seen_set (numbers (survey_of c.file).handed)
  pub each_seen : Seen c (survey_of c.file).handed
  pub references : Each (λ (h : Handed). Resolves (survey_of c.file).tables h.sentence) (survey_of c.file).handed
  pub chains : Each (λ (h : Handed). EveryChainClimbs h.sentence (parent_in h.sentence)) (survey_of c.file).handed
  pub on_sheet : Each (λ (h : Handed). EveryChainClimbs h.sentence (parent_on (sentence_sheet h.sentence))) (survey_of c.file).handed

-- a wrong size comes first, then a file too long; else the file is read
pub record Answered (c : Surveying) : Type 0 where
  pub wrong_size : sheets_fit c.tables c.seen ≡ false → Untouched c 1
  pub too_long : sheets_fit c.tables c.seen ≡ true → file_limit < length c.file → Untouched c 2
  pub filled : Readable c.file c.tables c.seen → Filled c
