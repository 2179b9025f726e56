-- Demand 1, of the file alone: which bytes are refused by which number, and at which place. A front is what stands before the
-- line in question: bytes whose own survey finds no fault in any line, so that it is refused by nothing but its end.
use Rattle.std.specs.Prelude.{ℕ, ◌+◌, ◌≤◌, ◌<◌, ◌≡◌, ◌⊎◌, ◌↔◌, List, [], ◌∷◌, ◌++◌, length, None}
use Rattle.rules.specs.Lists.{bytes, Each}
use Rattle.rules.specs.Bytes.{percents}
use Rattle.rules.specs.Tables.{table}
use Rattle.rules.specs.Sentences.{Sentence}
use Rattle.rules.specs.Phases.{Preamble, in_sentence}
use Rattle.rules.specs.Reading.{begin, read}
use Rattle.rules.specs.Survey.{survey_of}
use Rattle.rules.specs.Tidy.{digits_of}
use Rattle.rules.specs.Places.{StartsLine}
use Rattle.rules.specs.LentBuffers.{WithinLimit}
use Rattle.rules.specs.GrammarLines.{Legal, White, LineFits}
use Rattle.rules.specs.GrammarColumns.{Begins, Columns}

-- the place of its refusal is its end
pub record Clean (front : List ℕ) : Type 0 where
  pub fits : WithinLimit front
  pub place : (survey_of front).place ≡ length front

pub record RefusedBy (number place : ℕ) (file : List ℕ) : Type 0 where
  pub refusal : (survey_of file).refusal ≡ number
  pub at : (survey_of file).place ≡ place

-- no byte is a newline
abbrev pub OneLine : List ℕ → Type 0
OneLine l = Each (λ (b : ℕ). b ≡ 10 → ⊥) l

-- a front, a line with its newline, and any bytes behind
abbrev pub line_in : List ℕ → List ℕ → List ℕ → List ℕ
line_in front l x = front ++ (l ++ (10 ∷ x))

-- the line behind the front is refused by this number, at its first byte, exactly if the line is so
abbrev pub Exactly : ℕ → List ℕ → List ℕ → Type 0 → Type 0
Exactly number front l So = (x : List ℕ) → WithinLimit (line_in front l x) → RefusedBy number (length front) (line_in front l x) ↔ So

-- refused at a place inside the line behind the front
pub record RefusedInside (number : ℕ) (front l file : List ℕ) : Type 0 where
  pub refusal : (survey_of file).refusal ≡ number
  pub from : length front ≤ (survey_of file).place
  pub up_to : (survey_of file).place < length front + length l

-- the line behind the front is refused by this number, which points at a column, exactly if the line is so
abbrev pub ExactlyInside : ℕ → List ℕ → List ℕ → Type 0 → Type 0
ExactlyInside number front l So = (x : List ℕ) → WithinLimit (line_in front l x) → RefusedInside number front l (line_in front l x) ↔ So

-- ---- 3: bytes follow the last newline

pub record Unended (file : List ℕ) : Type 0 where
  pub front : List ℕ
  pub rest : List ℕ
  pub are : file ≡ front ++ rest
  pub one_line : OneLine rest
  pub given : 1 ≤ length rest
  pub starts : StartsLine file (length front)
  pub place : (survey_of file).place ≡ length front

-- ---- 4, 5: bytes and lengths

-- a byte other than 9, 32 to 127 and 160 to 255
pub record HasIllegal (l : List ℕ) : Type 0 where
  pub before : List ℕ
  pub byte : ℕ
  pub behind : List ℕ
  pub are : l ≡ before ++ (byte ∷ behind)
  pub illegal : Legal byte → ⊥

abbrev pub TooLongLine : List ℕ → Type 0
TooLongLine l = Each Legal l × (4096 < length l)

-- ---- 8: numbers are decimal, without plus or leading zeros; the only negative is -1

abbrev pub NumberWritten : ℕ → ℕ → List ℕ → Type 0
NumberWritten lowest highest xs = (v : ℕ) × (lowest ≤ v) × (v ≤ highest) × (xs ≡ digits_of v)

abbrev pub IdWritten : List ℕ → Type 0
IdWritten xs = (xs ≡ bytes "-1") ⊎ NumberWritten 0 65535 xs

-- a line that starts with a keyword and has one column behind it
pub record OneNumber (keyword n l : List ℕ) : Type 0 where
  pub fits : LineFits l
  pub rest : List ℕ
  pub starts : l ≡ keyword ++ rest
  pub columns : Columns l (keyword ∷ n ∷ [])

-- #BOS with four columns behind it, and a comment or none
pub record FourNumbers (n editor date origin l : List ℕ) : Type 0 where
  pub fits : LineFits l
  pub rest : List ℕ
  pub starts : l ≡ bytes "#BOS" ++ rest
  pub back : List ℕ
  pub columns : Begins l (bytes "#BOS" ∷ n ∷ editor ∷ date ∷ origin ∷ []) back
  pub then_comment : Each White back ⊎ ((comment : List ℕ) × Begins back (percents ∷ []) comment)

-- the front ends inside a sentence
abbrev pub InsideSentence : List ℕ → Type 0
InsideSentence front = (p : Preamble) × (s : Sentence) × ((read begin front).phase ≡ in_sentence p s)

pub record BadNumbers (front : List ℕ) : Type 0 where
  -- no format line yet
  pub format : (survey_of front).refusal ≡ 9 → (n l : List ℕ) → OneNumber (bytes "#FORMAT") n l → ExactlyInside 8 front l (NumberWritten 0 65535 n → ⊥)
  pub end : InsideSentence front → (n l : List ℕ) → OneNumber (bytes "#EOS") n l → ExactlyInside 8 front l (NumberWritten 1 65535 n → ⊥)
  -- behind the format line, in no table and no sentence
  pub begin : ((survey_of front).refusal ≡ 0) ⊎ ((survey_of front).refusal ≡ 13) → (n editor date origin l : List ℕ) → FourNumbers n editor date origin l
      → ExactlyInside 8 front l ((NumberWritten 1 65535 n → ⊥) ⊎ (IdWritten editor → ⊥) ⊎ (NumberWritten 0 4294967295 date → ⊥) ⊎ (NumberWritten 1 65535 origin → ⊥))

-- ---- 9, 13, 23: the file's end

-- nothing else is said there
abbrev pub AtItsEnd : ℕ → Type 0
AtItsEnd n = (n ≡ 0) ⊎ (n ≡ 9) ⊎ (n ≡ 13) ⊎ (n ≡ 23)

-- ORIGIN or EDITOR isn't there
abbrev pub Lacking : List ℕ → Type 0
Lacking file = (table 0 (survey_of file).tables ≡ None) ⊎ (table 1 (survey_of file).tables ≡ None)

pub record EndRule (front : List ℕ) : Type 0 where
  -- it is empty or ends with byte 10
  pub whole_lines : StartsLine front (length front)
  pub numbers : AtItsEnd (survey_of front).refusal
  -- 9 and 23 come first
  pub missing : ((survey_of front).refusal ≡ 9 → ⊥) → ((survey_of front).refusal ≡ 23 → ⊥) → RefusedBy 13 (length front) front ↔ Lacking front
  -- and then a #BOS with four numbers as they must be is refused by 13 too
  pub at_head : (survey_of front).refusal ≡ 13 → (n editor date origin l : List ℕ) → FourNumbers n editor date origin l
      → NumberWritten 1 65535 n → IdWritten editor → NumberWritten 0 4294967295 date → NumberWritten 1 65535 origin
      → (x : List ℕ) → WithinLimit (line_in front l x) → RefusedBy 13 (length front) (line_in front l x)
