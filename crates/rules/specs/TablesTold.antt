-- Document 01, "The numbers of refusal": the table sheet holds the tables closed before the fault. Of the file alone: a line that
-- is refused, and an unended rest, leave the tables of the lines in front, and of these each table that stands there is told.
use Rattle.std.specs.Prelude.{ℕ, ◌<◌, ◌≡◌, List, [], ◌∷◌, ◌++◌, Some}
use Rattle.rules.specs.Lists.{bytes, Each}
use Rattle.rules.specs.Tables.{Row, table}
use Rattle.rules.specs.Survey.{survey_of}
use Rattle.rules.specs.LentBuffers.{WithinLimit}
use Rattle.rules.specs.Refusals.{Clean, OneLine, line_in}
use Rattle.rules.specs.GrammarLines.{lines_written, Heeded}
use Rattle.rules.specs.GrammarTables.{Names}
use Rattle.rules.specs.AsWritten.{EachWith, TableRowSaid}

-- among the file's lines stand those of the n-th table: #BOT and its name, rows, which don't begin with #, #EOT and its name
pub record TableStands (file : List ℕ) (n : ℕ) (rows : List (List ℕ)) : Type 0 where
  pub one_of_seven : n < 7
  pub before : List (List ℕ)
  pub lines : List (List ℕ)
  pub behind : List (List ℕ)
  pub parts : file ≡ lines_written (before ++ (lines ++ behind))
  pub each_line : Each OneLine (before ++ (lines ++ behind))
  pub bot : List ℕ
  pub eot : List ℕ
  pub heeded : Heeded lines ((bot ∷ rows) ++ (eot ∷ []))
  pub its_bot : Names (bytes "#BOT") n bot
  pub its_rows : Each (λ (l : List ℕ). (rest : List ℕ) → l ≡ bytes "#" ++ rest → ⊥) rows
  pub its_eot : Names (bytes "#EOT") n eot

-- the n-th table is told, with a row for each of these lines, in order, and what the line says
pub record TableTold (file : List ℕ) (n : ℕ) (rows : List (List ℕ)) : Type 0 where
  pub told : List Row
  pub there : table n (survey_of file).tables ≡ Some told
  pub each_row : EachWith (TableRowSaid n) told rows

-- of a front without a fault
pub record TablesBeforeFault (front : List ℕ) : Type 0 where
  -- with a line behind it that is refused, and any bytes behind that
  pub at_line : (l x : List ℕ) → OneLine l → WithinLimit (line_in front l x) → (Clean (line_in front l []) → ⊥)
      → (survey_of (line_in front l x)).tables ≡ (survey_of front).tables
  pub at_rest : (rest : List ℕ) → OneLine rest → WithinLimit (front ++ rest) → (survey_of (front ++ rest)).tables ≡ (survey_of front).tables
  pub each_table : (n : ℕ) (rows : List (List ℕ)) → TableStands front n rows → TableTold front n rows
