-- Document 01, "The numbers of refusal": an opening gives a sentence handed out, else 24 with sentence sheet and edge
-- list zero; it fills the table sheet and the seen set as a survey does.
use Rattle.std.specs.Prelude.{ℕ, Bool, ◌&&◌, List, [], ◌∷◌, length, replicate, eqb, Option, None, Some}
use Rattle.rules.specs.Lists.{pick}
use Rattle.rules.specs.Numbers.{edge_limit}
use Rattle.rules.specs.Sentences.{Sentence}
use Rattle.rules.specs.Reading.{Handed, numbers}
use Rattle.rules.specs.Sheets.{table_sheet, seen_set, sentence_sheet_size, sentence_sheet, EdgeRecord, no_edge, edge_list}
use Rattle.rules.specs.Survey.{Survey, survey_of, sheets_fit, file_fits}
use Rattle.rules.specs.SentenceFrom.{sentence_from}

-- the sentence of a number among those handed out
abbrev pub sentence_of : ℕ → List Handed → Option Sentence
sentence_of n [] = None
sentence_of n (h ∷ hs) =
    let later = sentence_of n hs in
    pick (eqb n h.sentence.heading.number) (Some h.sentence) later

pub record Opened : Type 0 where
  pub answer : ℕ
  pub tables : List ℕ
  pub seen : List ℕ
  pub sheet : List ℕ
  pub edges : List EdgeRecord

abbrev pub no_sheet : List ℕ
no_sheet = replicate sentence_sheet_size 0

abbrev pub no_edges : List EdgeRecord
no_edges = replicate edge_limit no_edge

-- the sentence sheet and the edge list have their fixed sizes
abbrev pub sentence_fits : List ℕ → List EdgeRecord → Bool
sentence_fits sheet edges = eqb (length sheet) sentence_sheet_size && eqb (length edges) edge_limit

-- all four lent buffers have them
abbrev pub all_fit : List ℕ → List ℕ → List ℕ → List EdgeRecord → Bool
all_fit tables seen sheet edges = sheets_fit tables seen && eqb (length sheet) sentence_sheet_size && eqb (length edges) edge_limit

abbrev pub opened : Survey → Option Sentence → Opened
opened read_as None =
    record { answer = 24; tables = table_sheet read_as.tables; seen = seen_set (numbers read_as.handed); sheet = no_sheet; edges = no_edges }
opened read_as (Some s) =
    record {
      answer = 0;
      tables = table_sheet read_as.tables;
      seen = seen_set (numbers read_as.handed);
      sheet = sentence_sheet s;
      edges = edge_list s;
    }

unfoldable pub after_opening : List ℕ → ℕ → List ℕ → List ℕ → List ℕ → List EdgeRecord → Opened
after_opening file n tables seen sheet edges =
    pick (all_fit tables seen sheet edges)
    (pick (file_fits file)
    (opened (survey_of file) (sentence_of n (survey_of file).handed))
    (record { answer = 2; tables = tables; seen = seen; sheet = sheet; edges = edges }))
    (record { answer = 1; tables = tables; seen = seen; sheet = sheet; edges = edges })

-- ---- the opening of the sentence that begins at a place

pub record OpenedAt : Type 0 where
  pub answer : ℕ
  pub sheet : List ℕ
  pub edges : List EdgeRecord

abbrev pub opened_as : Option Sentence → OpenedAt
opened_as None = record { answer = 24; sheet = no_sheet; edges = no_edges }
opened_as (Some s) = record { answer = 0; sheet = sentence_sheet s; edges = edge_list s }

unfoldable pub after_opening_at : List ℕ → ℕ → List ℕ → List EdgeRecord → OpenedAt
after_opening_at file at sheet edges =
    pick (sentence_fits sheet edges)
    (pick (file_fits file) (opened_as (sentence_from file at)) (record { answer = 2; sheet = sheet; edges = edges }))
    (record { answer = 1; sheet = sheet; edges = edges })
