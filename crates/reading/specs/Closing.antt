-- How far a reading of a whole file came, as it is told; and what is done where the lines end.
use Rattle.std.specs.Prelude.{ℕ, ◌<◌, ◌≡◌, ◌||◌, List, eqb, length, get_or, replicate}
use Rattle.rules.specs.Lists.{pick}
use Rattle.rules.specs.Rules as rules
use Rattle.rules.specs.Sheets.{table_count, table_room, row_place, table_sheet_size, table_sheet, seen_set}
use Rattle.rules.specs.Phases.{tables_at}
use Rattle.rules.specs.Reading.{Reading, begin, numbers, read, verdict}
use Rattle.rules.specs.Survey.{Told, last_end, answered, told}
use Rattle.rules.specs.Index.{beginnings}
use Rattle.columns.specs.Splices.{splice}
use Rattle.steps.specs.declared.Fault.{Fault}
use Rattle.judging.specs.States.{state_of, table_open}
use Rattle.judging.specs.declared.state.Phase.{Phase}
use Rattle.judging.specs.declared.state.Phase.TheVariants.{Start, Top, InTable, InSentence, Behind}
use Rattle.judging.specs.declared.state.State.{State}
use Rattle.reading.specs.declared.Reached.{Reached}
use Rattle.reading.specs.declared.Read.{Read}

abbrev pub reached_at : State → ℕ → ℕ → Reached
reached_at s n place = record { state = s; fault = record { number = n; place = place } }

abbrev pub fault_said : rules.Fault → Fault
fault_said f = record { number = f.number; place = f.place }

abbrev pub state_after : Reading → State
state_after r = state_of (length r.handed) (last_end r.handed) r.phase

abbrev pub reached_by : Reading → Reached
reached_by r = record { state = state_after r; fault = fault_said (verdict r) }

-- ---- the file's end

-- 9, 23, 13, or 0: ORIGIN or EDITOR is missing where its count is 0
abbrev pub closing_number : Phase → List ℕ → ℕ
closing_number Start sheet = 9
closing_number Top sheet = pick (eqb (get_or sheet 0 0) 0 || eqb (get_or sheet 1 0) 0) 13 0
closing_number (InTable n rows) sheet = 23
closing_number (InSentence t) sheet = 23
closing_number Behind sheet = 0

-- the rows of a table that is not closed are taken out
abbrev pub given_up : Phase → List ℕ → List ℕ
given_up Start sheet = sheet
given_up Top sheet = sheet
given_up (InTable n rows) sheet = splice (row_place n 0) (replicate table_room 0) sheet
given_up (InSentence t) sheet = sheet
given_up Behind sheet = sheet

-- all lines of the file are taken, or all in front of the first faulty one; the list of beginnings has this size, and tells of the numbers from one
-- on
pub record Walked (file : List ℕ) (from size : ℕ) (r : Reached) (sheet seen begins : List ℕ) : Type 0 where
  pub reached_is : r ≡ reached_by (read begin file)
  pub place : table_open r.state.phase < table_count
  pub sheet_size : length sheet ≡ table_sheet_size
  pub given_up_lem : given_up r.state.phase sheet ≡ table_sheet (tables_at (read begin file).phase)
  pub seen_is : seen ≡ seen_set (numbers (read begin file).handed)
  pub begins_is : begins ≡ beginnings from size (read begin file).handed

-- ---- the four numbers that are told

abbrev pub read_as : Told → Read
read_as t = record { refusal = t.refusal; place = t.place; sentences = t.sentences; sound_end = t.sound_end }

-- what is told and left of a whole reading, with a list of this size for where the sentences begin, by their numbers from
-- one on
pub record FileRead (whole : Reading) (r : Read) (sheet seen : List ℕ) (from size : ℕ) (begins : List ℕ) : Type 0 where
  pub answer : r ≡ read_as (told (answered whole))
  pub tables_are : sheet ≡ table_sheet (tables_at whole.phase)
  pub seen_is : seen ≡ seen_set (numbers whole.handed)
  pub begins_are : begins ≡ beginnings from size whole.handed
