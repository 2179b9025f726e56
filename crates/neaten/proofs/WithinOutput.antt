-- What a writing tells as written lies within its output, whatever was lent: a text that is granted stands there, and none
-- was written otherwise. By the tests of a writing, one after the other.
use Prim.Native.Nat.{ℕ, ◌≤◌}
use native.Mathlib.Omega.{arith}
use mathlib.Core.Path.{sym}
use mathlib.Core.Bool.{Bool, true, false, ◌&&◌}
use mathlib.Core.List.{List}
use lib.ListN.{length, drop, length-append}
use lib.Dec.{leb, eqb}
use lib.Seq.{length-take-le}
use Rattle.rules.specs.Lists.{pick}
use Rattle.rules.specs.Numbers.{file_limit, edge_limit}
use Rattle.rules.specs.Reading.{numbers}
use Rattle.rules.specs.Sheets.{table_sheet, seen_set, EdgeRecord}
use Rattle.rules.specs.Survey.{survey_of, file_fits}
use Rattle.rules.specs.Opening.{no_sheet, no_edges, all_fit}
use Rattle.rules.specs.Writing.{Written, WritingOutcome, tidy_of, writing_answer, written_over, output_after, after_writing}
use Rattle.opening.specs.FlatLists.{edge_records, flat_size}
use Rattle.writing.specs.Promise.{WrittenFlat, flattened, after_writing_flat}
use Rattle.neaten.specs.Answers.{IsPrefixLen}

within_text : (accepted room : Bool) (refusal place end : ℕ) (text output : List ℕ)
    → let answer : Written = pick accepted (pick room (record { refusal = 0; place = end; written = length text }) (record { refusal = 25; place = end; written = 0 })) (record { refusal = refusal; place = place; written = 0 }) in
    answer.written ≤ length (pick (eqb answer.refusal 0) (written_over text output) output)
within_text true true refusal place end text output = omega (arith, length-append text (drop (length text) output))
within_text true false refusal place end text output = omega arith
within_text false room refusal place end text output = omega arith

within_records : (file tables seen sheet : List ℕ) (edges : List EdgeRecord) (output : List ℕ)
    → (after_writing file tables seen sheet edges output).answer.written ≤ length (after_writing file tables seen sheet edges output).output
unfolding after_writing
within_records file tables seen sheet edges output = sized (all_fit tables seen sheet edges) (file_fits file)
  where
    granted : WritingOutcome
    granted =
        record {
          answer = writing_answer file output;
          tables = table_sheet (survey_of file).tables;
          seen = seen_set (numbers (survey_of file).handed);
          sheet = no_sheet;
          edges = no_edges;
          output = output_after file output;
        }

    kept : ℕ → WritingOutcome
    kept refusal = record { answer = record { refusal = refusal; place = 0; written = 0 }; tables = tables; seen = seen; sheet = sheet; edges = edges; output = output }

    sized : (fit few : Bool) → (pick fit (pick few granted (kept 2)) (kept 1)).answer.written ≤ length (pick fit (pick few granted (kept 2)) (kept 1)).output
    sized true true =
        within_text
        (eqb (survey_of file).refusal 0)
        (leb (length (tidy_of file)) (length output) && leb (length (tidy_of file)) file_limit)
        (survey_of file).refusal
        (survey_of file).place
        (length file)
        (tidy_of file)
        output
    sized true false = omega arith
    sized false few = omega arith

pub within_output : (file tables seen sheet edges output : List ℕ)
    → IsPrefixLen (after_writing_flat file tables seen sheet edges output).answer.written (after_writing_flat file tables seen sheet edges output).output
unfolding after_writing_flat
within_output file tables seen sheet edges output = (within, sym (length-take-le _ _ within))
  where
    records : WritingOutcome
    records = after_writing file tables seen sheet (edge_records edge_limit edges) output

    none : WrittenFlat
    none = record { answer = record { refusal = 1; place = 0; written = 0 }; tables = tables; seen = seen; sheet = sheet; edges = edges; output = output }

    by : (whole : Bool) → (pick whole (flattened records) none).answer.written ≤ length (pick whole (flattened records) none).output
    by true = within_records file tables seen sheet (edge_records edge_limit edges) output
    by false = omega arith

    within : (after_writing_flat file tables seen sheet edges output).answer.written ≤ length (after_writing_flat file tables seen sheet edges output).output
    within = by (eqb (length edges) flat_size)
