-- Document 01, "What the library does" and "The numbers of refusal": what a survey answers, and what the buffers lent
-- to it then hold.
use Rattle.std.specs.Prelude.{ℕ, Bool, ◌&&◌, List, [], ◌∷◌, length, leb, eqb}
use Rattle.rules.specs.Lists.{pick}
use Rattle.rules.specs.Numbers.{file_limit}
use Rattle.rules.specs.Tables.{Tables, no_tables}
use Rattle.rules.specs.Phases.{format_at, tables_at}
use Rattle.rules.specs.Reading.{Handed, Reading, begin, read, verdict, numbers}
use Rattle.rules.specs.Sheets.{table_sheet_size, table_sheet, seen_set_size, seen_set}

-- ---- what a file is read as

-- the file is no longer than the limit
abbrev pub file_fits : List ℕ → Bool
file_fits file = leb (length file) file_limit

-- the end of the last sentence handed out, or 0
abbrev pub last_end : List Handed → ℕ
last_end [] = 0
last_end (h ∷ []) = h.end
last_end (h ∷ i ∷ hs) = last_end (i ∷ hs)

pub record Survey : Type 0 where
  pub refusal : ℕ
  pub place : ℕ
  pub handed : List Handed
  pub sound_end : ℕ
  pub format : ℕ
  pub tables : Tables

abbrev pub answered : Reading → Survey
answered r =
    record {
      refusal = (verdict r).number;
      place = (verdict r).place;
      handed = r.handed;
      sound_end = last_end r.handed;
      format = format_at r.phase;
      tables = tables_at r.phase;
    }

abbrev pub nothing_read : ℕ → Survey
nothing_read n = record { refusal = n; place = 0; handed = []; sound_end = 0; format = 0; tables = no_tables }

unfoldable pub survey_of : List ℕ → Survey
survey_of file = pick (file_fits file) (answered (read begin file)) (nothing_read 2)

-- ---- with lent buffers: 1 comes first, then 2; after either no buffer has changed

-- refusal, place, sentences handed out, sound end
pub record Told : Type 0 where
  pub refusal : ℕ
  pub place : ℕ
  pub sentences : ℕ
  pub sound_end : ℕ

abbrev pub told : Survey → Told
told s = record { refusal = s.refusal; place = s.place; sentences = length s.handed; sound_end = s.sound_end }

pub record SurveyOutcome : Type 0 where
  pub answer : Told
  pub tables : List ℕ
  pub seen : List ℕ

-- the table sheet and the seen set have their fixed sizes
abbrev pub sheets_fit : List ℕ → List ℕ → Bool
sheets_fit tables seen = eqb (length tables) table_sheet_size && eqb (length seen) seen_set_size

unfoldable pub after_survey : List ℕ → List ℕ → List ℕ → SurveyOutcome
after_survey file tables seen =
    let read_as = survey_of file in
    pick (sheets_fit tables seen)
    (pick (file_fits file)
    (record { answer = told read_as; tables = table_sheet read_as.tables; seen = seen_set (numbers read_as.handed) })
    (record { answer = told (nothing_read 2); tables = tables; seen = seen }))
    (record { answer = told (nothing_read 1); tables = tables; seen = seen })
