-- Document 02, request 4: the place is the first byte of the column at fault for 8, 10, 15, 18 and 19; if several columns have
-- the same refusal, the leftmost. A text that runs to the line's end counts from its first byte. For 19 it is the column of
-- the parent at fault, primary or secondary. For every other number the place is a line's first byte, or the file's end.
use Rattle.std.specs.Prelude.{ℕ, ◌+◌, ◌-◌, ◌≤◌, ◌<◌, ◌≡◌, true, false, List, [], length, take, drop}
use Rattle.rules.specs.Lists.{member}
use Rattle.rules.specs.Texts.{Text}
use Rattle.rules.specs.Reading.{begin, read}
use Rattle.rules.specs.Survey.{survey_of}
use Rattle.rules.specs.LentBuffers.{TooLong}
use Rattle.rules.specs.Refusals.{Clean, OneLine, line_in, Unended}
use Rattle.rules.specs.ColumnsAtFault.{pointing, Breaks}

-- a column of the line starts at the place and breaks the rule of the number, and no column to its left does
pub record AtColumn (Broken : ℕ → Text → Type 0) (line : Text) (number place : ℕ) : Type 0 where
  pub column : Text
  pub starts : place ≡ column.start
  pub broken : Broken number column
  -- the line has its bytes there, one at least
  pub from : line.start ≤ place
  pub up_to : place < line.start + length line.bytes
  pub there : take (length column.bytes) (drop (place - line.start) line.bytes) ≡ column.bytes
  pub some : 1 ≤ length column.bytes
  pub leftmost : (other : Text) → Broken number other → place ≤ other.start

-- the first faulty line of a file: none is in front of it, and with it there is one
pub record FaultyLine (file : List ℕ) : Type 0 where
  pub front : List ℕ
  pub bytes : List ℕ
  pub behind : List ℕ
  pub are : file ≡ line_in front bytes behind
  pub clean : Clean front
  pub one_line : OneLine bytes
  pub faulty : Clean (line_in front bytes []) → ⊥

abbrev pub line_text : {file : List ℕ} → FaultyLine file → Text
line_text l = record { start = length l.front; bytes = l.bytes }

pub record PointedAt (file : List ℕ) : Type 0 where
  pub its : FaultyLine file
  pub at : AtColumn (Breaks (read begin its.front).phase (line_text its)) (line_text its) (survey_of file).refusal (survey_of file).place

-- the first byte of the first faulty line, or of an unended rest; the file's end, if no line is faulty; 0 of a file too long
pub data OtherPlace (file : List ℕ) : Type 0 where
  at_line : (l : FaultyLine file) → (survey_of file).place ≡ length l.front → OtherPlace file
  at_rest : (survey_of file).refusal ≡ 3 → Unended file → OtherPlace file
  at_end_lem : Clean file → OtherPlace file
  too_long : TooLong file → (survey_of file).place ≡ 0 → OtherPlace file

pub record PlaceRule (file : List ℕ) : Type 0 where
  pub pointed : member (survey_of file).refusal pointing ≡ true → PointedAt file
  pub not_pointed : member (survey_of file).refusal pointing ≡ false → OtherPlace file
