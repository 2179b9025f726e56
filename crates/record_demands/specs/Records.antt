-- Openings and writings whose list of secondary edges is lent as records: a record of code as one of the rules, field by field,
-- and what is answered and left, as the rules bundle it.
use Rattle.std.specs.Prelude.{ℕ, List, map}
use Rattle.rules.specs.Sheets.{EdgeRecord}
use Rattle.rules.specs.Opening.{Opened, OpenedAt}
use Rattle.rules.specs.Writing.{WritingOutcome}
use Rattle.writing.specs.declared.Written.{Written}
use Rattle.edges.specs.declared.Edge.{Edge}

abbrev pub told : Edge → EdgeRecord
told e = record { child = e.child; label_start = e.label; label_length = e.label_len; parent = e.parent }

unfoldable pub told_all : List Edge → List EdgeRecord
told_all es = map told es

abbrev pub records_left : ℕ → List ℕ → List ℕ → List ℕ → List Edge → Opened
records_left r tables seen sheet edges =
    record { answer = r; tables = tables; seen = seen; sheet = sheet; edges = told_all edges }

abbrev pub records_there : ℕ → List ℕ → List Edge → OpenedAt
records_there r sheet edges = record { answer = r; sheet = sheet; edges = told_all edges }

abbrev pub text_of_records : Written → List ℕ → List ℕ → List ℕ → List Edge → List ℕ → WritingOutcome
text_of_records r tables seen sheet edges output =
    record {
      answer = record { refusal = r.refusal; place = r.place; written = r.length };
      tables = tables;
      seen = seen;
      sheet = sheet;
      edges = told_all edges;
      output = output;
    }
