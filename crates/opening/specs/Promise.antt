-- The promises of the openings whose list of secondary edges is lent as plain numbers: what rules/Opening says of the list of
-- records, and 1 for a list of another length.
use Rattle.std.specs.Prelude.{ℕ, zero, suc, Bool, ◌&&◌, List, length, eqb, Option, None}
use Rattle.rules.specs.Lists.{pick}
use Rattle.rules.specs.Numbers.{edge_limit}
use Rattle.rules.specs.Sentences.{Sentence}
use Rattle.rules.specs.SentenceFrom.{sentence_from}
use Rattle.rules.specs.Sheets.{sentence_sheet_size}
use Rattle.rules.specs.Survey.{sheets_fit}
use Rattle.rules.specs.Opening.{Opened, OpenedAt, after_opening, after_opening_at}
use Rattle.rules.specs.Layout.{flat_list}
use Rattle.opening.specs.FlatLists.{edge_records, flat_size}

-- ---- by the sentence's number

-- the four lent buffers have their fixed sizes
abbrev pub all_flat_fit : List ℕ → List ℕ → List ℕ → List ℕ → Bool
all_flat_fit tables seen sheet edges = sheets_fit tables seen && eqb (length sheet) sentence_sheet_size && eqb (length edges) flat_size

pub record OpenedFlat : Type 0 where
  pub answer : ℕ
  pub tables : List ℕ
  pub seen : List ℕ
  pub sheet : List ℕ
  pub edges : List ℕ

abbrev pub flattened : Opened → OpenedFlat
flattened o = record { answer = o.answer; tables = o.tables; seen = o.seen; sheet = o.sheet; edges = flat_list o.edges }

unfoldable pub after_opening_flat : List ℕ → ℕ → List ℕ → List ℕ → List ℕ → List ℕ → OpenedFlat
after_opening_flat file n tables seen sheet edges =
    pick (eqb (length edges) flat_size)
    (flattened (after_opening file n tables seen sheet (edge_records edge_limit edges)))
    (record { answer = 1; tables = tables; seen = seen; sheet = sheet; edges = edges })

abbrev pub outcome : ℕ → List ℕ → List ℕ → List ℕ → List ℕ → OpenedFlat
outcome r tables seen sheet edges = record { answer = r; tables = tables; seen = seen; sheet = sheet; edges = edges }

-- the sentence whose beginning is noted so: one more than the place of its first line, or 0
abbrev pub noted_sentence : List ℕ → ℕ → Option Sentence
noted_sentence file zero = None
noted_sentence file (suc at) = sentence_from file at

-- ---- by the place of its first line

abbrev pub flat_fits : List ℕ → List ℕ → Bool
flat_fits sheet edges = eqb (length sheet) sentence_sheet_size && eqb (length edges) flat_size

pub record OpenedFlatAt : Type 0 where
  pub answer : ℕ
  pub sheet : List ℕ
  pub edges : List ℕ

abbrev pub flattened_at : OpenedAt → OpenedFlatAt
flattened_at o = record { answer = o.answer; sheet = o.sheet; edges = flat_list o.edges }

unfoldable pub after_opening_flat_at : List ℕ → ℕ → List ℕ → List ℕ → OpenedFlatAt
after_opening_flat_at file at sheet edges =
    pick (eqb (length edges) flat_size)
    (flattened_at (after_opening_at file at sheet (edge_records edge_limit edges)))
    (record { answer = 1; sheet = sheet; edges = edges })

abbrev pub outcome_at : ℕ → List ℕ → List ℕ → OpenedFlatAt
outcome_at r sheet edges = record { answer = r; sheet = sheet; edges = edges }
