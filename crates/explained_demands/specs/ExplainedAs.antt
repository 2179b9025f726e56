-- Document 02, request 2, of a call: "the file if it has that table, else the list"; "1, then 2 for either, then those of the
-- file, then those of the list, then 26"; "every refusal returns the empty part"; sheets "end as zeros, or unchanged after 1 or 2".
use Rattle.std.specs.Prelude.{ℕ, ◌≡◌, ◌≢◌, ◌↔◌, List, [], length, take, drop, replicate, None, Some}
use Rattle.rules.specs.Texts.{Text, no_text}
use Rattle.rules.specs.Tables.{Row, table}
use Rattle.rules.specs.Survey.{survey_of}
use Rattle.rules.specs.LentBuffers.{SheetsSized, WithinLimit, TooLong}
use Rattle.rules.specs.ExplainingRules.{TagTablePlace, RowsTell, Unexplained, Accepted}
use Rattle.explaining.specs.declared.Explained.{Explained}

-- two answers alike, field by field
pub record SameAnswer (a b : Explained) : Type 0 where
  pub refusal : a.refusal ≡ b.refusal
  pub of : a.of ≡ b.of
  pub start : a.start ≡ b.start
  pub len : a.len ≡ b.len

-- ---- how a text is told: 1 is the file's, 2 the list's, 0 is of neither

pub record PlacedPart (answer : Explained) (which : ℕ) (whole : List ℕ) (t : Text) : Type 0 where
  pub of : answer.of ≡ which
  pub start : answer.start ≡ t.start
  pub len : answer.len ≡ length t.bytes
  pub found : take answer.len (drop answer.start whole) ≡ t.bytes

pub record GivenPart (part : List ℕ) (which : ℕ) (whole : List ℕ) (t : Text) : Type 0 where
  pub own : part ≡ t.bytes
  pub found : part ≡ take (length t.bytes) (drop t.start whole)

-- ---- a call, its number of refusal, what it tells, and what it leaves

abbrev pub Telling : Type 1
Telling = ℕ → List ℕ → Text → Type 0

pub record Refused (refusal : ℕ) (Part : Telling) (n : ℕ) : Type 0 where
  pub number : refusal ≡ n
  pub empty : Part 0 [] no_text

pub record Granted (refusal : ℕ) (Part : Telling) (which : ℕ) (whole : List ℕ) (t : Text) : Type 0 where
  pub number : refusal ≡ 0
  pub part : Part which whole t

-- both files are read
pub record Readable (file list tables seen : List ℕ) : Type 0 where
  pub sized : SheetsSized tables seen
  pub file_within : WithinLimit file
  pub list_within : WithinLimit list

pub record ExplainedAs (file list : List ℕ) (place : ℕ) (tag tables seen : List ℕ) (refusal : ℕ) (Part : Telling)
    (tables' seen' : List ℕ) : Type 0 where
  pub wrong_size : (SheetsSized tables seen → ⊥) → Refused refusal Part 1 × (tables' ≡ tables) × (seen' ≡ seen)
  pub file_too_long : SheetsSized tables seen → TooLong file → Refused refusal Part 2 × (tables' ≡ tables) × (seen' ≡ seen)
  pub list_too_long : SheetsSized tables seen → WithinLimit file → TooLong list
      → Refused refusal Part 2 × (tables' ≡ tables) × (seen' ≡ seen)
  pub zeros : Readable file list tables seen → (tables' ≡ replicate 10759 0) × (seen' ≡ replicate 8192 0)
  pub file_first : Readable file list tables seen → (survey_of file).refusal ≢ 0 → Refused refusal Part (survey_of file).refusal
  pub then_list : Readable file list tables seen → Accepted file → (survey_of list).refusal ≢ 0
      → Refused refusal Part (survey_of list).refusal
  -- the table decides, not the tag
  pub by_file : Readable file list tables seen → Accepted file → Accepted list → (n : ℕ) (rs : List Row) (t : Text) → TagTablePlace n place
      → table n (survey_of file).tables ≡ Some rs → RowsTell tag rs t → Granted refusal Part 1 file t
  pub by_list : Readable file list tables seen → Accepted file → Accepted list → (n : ℕ) (rs : List Row) (t : Text) → TagTablePlace n place
      → table n (survey_of file).tables ≡ None → table n (survey_of list).tables ≡ Some rs
      → RowsTell tag rs t → Granted refusal Part 2 list t
  pub exactly : Readable file list tables seen → Accepted file → Accepted list
      → (refusal ≡ 26) ↔ Unexplained (survey_of file).tables (survey_of list).tables place tag
  pub refused : refusal ≢ 0 → Part 0 [] no_text
