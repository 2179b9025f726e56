-- The promises of the openings and the writing whose list of secondary edges is lent as records.
use Rattle.std.specs.Prelude.{ℕ, List, map}
use Rattle.rules.specs.Sheets.{EdgeRecord}
use Rattle.rules.specs.Opening.{Opened, OpenedAt}
use Rattle.rules.specs.Writing.{WritingOutcome}
use Rattle.writing.specs.declared.Written.{Written}
use Rattle.writing.specs.Promise.{answer_of}
use Rattle.edges.specs.declared.Edge.{Edge}

-- a record of code as one of the rules
abbrev pub as_record : Edge → EdgeRecord
as_record e = record { child = e.child; label_start = e.label; label_length = e.label_len; parent = e.parent }

unfoldable pub as_records : List Edge → List EdgeRecord
as_records es = map as_record es

abbrev pub outcome : ℕ → List ℕ → List ℕ → List ℕ → List Edge → Opened
outcome r tables seen sheet edges = record { answer = r; tables = tables; seen = seen; sheet = sheet; edges = as_records edges }

abbrev pub outcome_at : ℕ → List ℕ → List Edge → OpenedAt
outcome_at r sheet edges = record { answer = r; sheet = sheet; edges = as_records edges }

abbrev pub written_outcome : Written → List ℕ → List ℕ → List ℕ → List Edge → List ℕ → WritingOutcome
written_outcome r tables seen sheet edges output =
    record { answer = answer_of r; tables = tables; seen = seen; sheet = sheet; edges = as_records edges; output = output }
