-- What the contract of the writing with a list of records says, number by number of the list. From the rule of writings, by the
-- size of the list.
use Prim.Native.Nat.{ℕ, ◌≤◌}
use mathlib.Core.Path.{◌≡◌, sym, ap, ◌∙◌, subst}
use mathlib.Core.List.{List}
use lib.ListN.{length}
use Rattle.rules.specs.Numbers.{edge_limit}
use Rattle.rules.specs.Sheets.{EdgeRecord}
use Rattle.rules.specs.Survey.{SurveyOutcome, survey_of}
use Rattle.rules.specs.Writing.{WritingOutcome, after_writing}
use Rattle.rules.specs.Writing as rules
use Rattle.rules.specs.Layout.{flat_list}
use Rattle.rules.specs.WritingRule.{WritingRule}
use Rattle.rules.proofs.Sizes.{wrong_sizes}
use Rattle.rules.proofs.WrittenExactly.{written_exactly}
use Rattle.opening.proofs.Flattened.{flat_none}
use Rattle.writing.specs.declared.Written.{Written}
use Rattle.edges.specs.declared.Edge.{Edge}
use Rattle.opened_demands.specs.Calls.{AllFlatSized}
use Rattle.written_demands.specs.Writings.{TextLeft}
use Rattle.written_demands.specs.WrittenRules.{SheetsAfter, TextGranted, TextRefused, WrittenAsCalled}
use Rattle.record_demands.specs.Records.{told_all, text_of_records}
use Rattle.record_demands.specs.RecordRules.{RecordsWritten}
use Rattle.record_demands.proofs.Told.{told_apart}
use Rattle.record_demands.proofs.AsRules.{in_records, in_numbers}

-- the list of records as plain numbers
abbrev numbers_of : WritingOutcome → TextLeft
numbers_of o =
    record {
      refusal = o.answer.refusal;
      place = o.answer.place;
      written = o.answer.written;
      tables = o.tables;
      seen = o.seen;
      sheet = o.sheet;
      edges = flat_list o.edges;
      output = o.output;
    }

module _ (file tables seen sheet : List ℕ) (es : List EdgeRecord) (output : List ℕ) (o : WritingOutcome)
    (p : o ≡ after_writing file tables seen sheet es output) where
  rule : WritingRule file tables seen sheet es output o
  rule = subst (WritingRule file tables seen sheet es output) (sym p) (written_exactly file tables seen sheet es output)

  buffers_after : AllFlatSized tables seen sheet (flat_list es) → length file ≤ 268435456 → SheetsAfter file (numbers_of o)
  buffers_after s h =
      let b = rule.buffers (in_records tables seen sheet es s) h in
      let v = (wrong_sizes file tables seen).filled s.sheets h in
      record {
        table_sheet_lem = b.table_sheet_lem ∙ ap (λ (x : SurveyOutcome). x.tables) v;
        seen_set_lem = b.seen_set_lem ∙ ap (λ (x : SurveyOutcome). x.seen) v;
        sentence_sheet_lem = b.sentence_sheet_lem;
        edge_list_lem = ap flat_list b.edge_list_lem ∙ flat_none edge_limit;
      }

  text_granted : o.answer.refusal ≡ 0 → TextGranted file output (numbers_of o)
  text_granted z = let g = rule.granted z in record { place = g.place; written = g.written; text = g.text; rest = g.rest; size = g.size }

  refused_so : (n place : ℕ) → o.answer ≡ record { refusal = n; place = place; written = 0 } → TextRefused n place (numbers_of o)
  refused_so n place e =
      record {
        refusal = ap (λ (a : rules.Written). a.refusal) e;
        place_is = ap (λ (a : rules.Written). a.place) e;
        written = ap (λ (a : rules.Written). a.written) e;
      }

  numbers_written : WrittenAsCalled file tables seen sheet (flat_list es) output (numbers_of o)
  numbers_written =
      record {
        wrong_size = λ other. ap numbers_of (rule.wrong_size (λ s. other (in_numbers tables seen sheet es s)));
        too_long = λ s h. ap numbers_of (rule.too_long (in_records tables seen sheet es s) h);
        buffers = buffers_after;
        exactly = λ s h. rule.exactly (in_records tables seen sheet es s) h;
        granted = text_granted;
        no_room = λ s h z other. refused_so 25 (length file) (rule.no_room (in_records tables seen sheet es s) h z other);
        refused = λ s h other. refused_so (survey_of file).refusal (survey_of file).place (rule.refused (in_records tables seen sheet es s) h other);
        untouched = rule.untouched;
      }

module _ (file tables seen sheet : List ℕ) (edges : List Edge) (output : List ℕ) (r : Written)
    (tables' seen' sheet' : List ℕ) (edges' : List Edge) (output' : List ℕ) where
  abbrev told_so : WritingOutcome
  told_so = text_of_records r tables' seen' sheet' edges' output'

  pub records_written : told_so ≡ after_writing file tables seen sheet (told_all edges) output
      → RecordsWritten file tables seen sheet edges output r tables' seen' sheet' edges' output'
  records_written p =
      let its = rule file tables seen sheet (told_all edges) output told_so p in
      record {
        whole = p;
        flat = numbers_written file tables seen sheet (told_all edges) output told_so p;
        wrong_size = λ other. told_apart edges' edges (ap (λ (o : WritingOutcome). o.edges) (its.wrong_size other));
        too_long = λ s h. told_apart edges' edges (ap (λ (o : WritingOutcome). o.edges) (its.too_long s h));
      }
