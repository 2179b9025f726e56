-- What the writing answers and leaves behind with a list of records, by what it does with one of plain numbers. No file within the
-- limit is refused by 1 or 2, so then the whole list is filled.
use mathlib.Core.Path.{◌≡◌, refl, ap, ◌∙◌}
use mathlib.Core.Logic.{◌≢◌}
use Prim.Native.Nat.{ℕ, ◌≤◌}
use native.Mathlib.Omega.{arith}
use Rattle.std.specs.Prelude.{Option, None, Some}
use mathlib.Core.Bool.{Bool, true, false, ◌&&◌}
use mathlib.Core.List.{List, [], ◌∷◌, ◌++◌}
use lib.Dec.{leb, eqb}
use lib.ListN.{length, drop, length-replicate}
use borrow.Author.Tests.{ne_eqb}
use Rattle.rules.specs.Lists.{pick}
use Rattle.rules.specs.Rules.{Fault}
use Rattle.rules.specs.Tables.{present, origins, editors}
use Rattle.rules.specs.Phases.{Phase, start, top, in_table, in_sentence, behind_sentence, at_end}
use Rattle.rules.specs.Reading.{Reading, begin, read, closing, closing_unless, verdict, numbers}
use Rattle.rules.specs.Numbers.{file_limit}
use Rattle.rules.specs.Sheets.{EdgeRecord, sentence_sheet_size, table_sheet, seen_set}
use Rattle.rules.specs.Survey.{Survey, survey_of, sheets_fit, file_fits}
use Rattle.rules.specs.Opening.{no_sheet, no_edges}
use Rattle.rules.specs.Writing.{WritingOutcome, after_writing, writing_answer, output_after, tidy_of}
use Rattle.rules.specs.Writing as rules
use Rattle.rules.proofs.KeptReading.{survey_read}
use Rattle.rules.proofs.CleanFronts.{fault_four}
use Rattle.opening.proofs.Flattened.{length_records}
use Rattle.writing.specs.declared.Written.{Written}
use Rattle.writing.specs.Promise.{WrittenFlat, after_writing_flat, answer_of}
use Rattle.writing.specs.Promise as flat
use Rattle.edges.specs.declared.Edge.{Edge}
use Rattle.edges.specs.Edges.{first_edges, filled_by}
use Rattle.edges.specs.Promise.{as_records, written_outcome}
use Rattle.edges.proofs.Records.{filled_list}
use Rattle.edges.proofs.Promised.{length_as_records, and_false, list, zeros, zero_list}

-- ---- the whole list is filled

from_four : (n : ℕ) → 4 ≤ n → filled_by n ≡ 512
from_four n h = rw (ne_eqb n 1 (λ e. omega (arith, h, e)), ne_eqb n 2 (λ e. omega (arith, h, e))) refl

at_end_lem : (p : Phase) → filled_by (at_end p) ≡ 512
at_end_lem start = refl
at_end_lem (top p) = by (present origins p.tables && present editors p.tables)
  where
    by : (t : Bool) → filled_by (pick t 0 13) ≡ 512
    by true = refl
    by false = refl
at_end_lem (in_table p n rs) = refl
at_end_lem (in_sentence p s) = refl
at_end_lem (behind_sentence p) = refl

unfaulted : (r : Reading) (part : List ℕ) → filled_by (closing r part).number ≡ 512
unfaulted r [] = at_end_lem r.phase
unfaulted r (b ∷ bs) = refl

judged : (file : List ℕ) → filled_by (verdict (read begin file)).number ≡ 512
judged file = by (read begin file).fault refl
  where
    by : (o : Option Fault) → (read begin file).fault ≡ o → filled_by (closing_unless o (read begin file)).number ≡ 512
    by None e = unfaulted (read begin file) (read begin file).part
    by (Some f) e = from_four f.number (fault_four file f e)

written_filled : (file output : List ℕ) → file_fits file ≡ true → filled_by (writing_answer file output).refusal ≡ 512
written_filled file output fits =
    by (eqb (survey_of file).refusal 0) (leb (length (tidy_of file)) (length output) && leb (length (tidy_of file)) file_limit)
  where
    by : (t u : Bool)
        → filled_by (pick {X = rules.Written} t
        (pick u (record { refusal = 0; place = length file; written = length (tidy_of file) }) (record { refusal = 25; place = length file; written = 0 }))
        (record { refusal = (survey_of file).refusal; place = (survey_of file).place; written = 0 })).refusal ≡ 512
    by true true = refl
    by true false = refl
    by false u = ap (λ (s : Survey). filled_by s.refusal) (survey_read file fits) ∙ judged file

-- ---- the promise

module _ (file output tables seen sheet : List ℕ) where
  abbrev by_text : List EdgeRecord → WritingOutcome
  by_text es = after_writing file tables seen sheet es output

  abbrev listed : List EdgeRecord → WritingOutcome → WritingOutcome
  listed es x =
      record { answer = x.answer; tables = x.tables; seen = x.seen; sheet = x.sheet; edges = list x.answer.refusal es x.edges; output = x.output }

  abbrev refused_by : ℕ → List EdgeRecord → WritingOutcome
  refused_by n es =
      record { answer = record { refusal = n; place = 0; written = 0 }; tables = tables; seen = seen; sheet = sheet; edges = es; output = output }

  abbrev surveyed : List EdgeRecord → WritingOutcome
  surveyed es =
      record {
        answer = writing_answer file output;
        tables = table_sheet (survey_of file).tables;
        seen = seen_set (numbers (survey_of file).handed);
        sheet = no_sheet;
        edges = es;
        output = output_after file output;
      }

  listed_by : (es : List EdgeRecord) → length es ≡ 512 → listed es (by_text zero_list) ≡ by_text es
  unfolding after_writing
  listed_by es l = rw (length_records 512 zeros, l) (by (sheets_fit tables seen && eqb (length sheet) sentence_sheet_size) (file_fits file) refl)
    where
      by : (t u : Bool) → file_fits file ≡ u → listed es (pick (t && true) (pick u (surveyed no_edges) (refused_by 2 zero_list)) (refused_by 1 zero_list))
          ≡ pick (t && true) (pick u (surveyed no_edges) (refused_by 2 es)) (refused_by 1 es)
      by true true e = ap (λ (k : ℕ). surveyed (pick (eqb k 0) es no_edges)) (written_filled file output e)
      by true false e = refl
      by false u e = refl

  by_numbers : after_writing_flat file tables seen sheet zeros output ≡ flat.flattened (by_text zero_list)
  unfolding after_writing_flat
  by_numbers = refl

  module _ (ys : List Edge) where
    pub other_length_write_text : length ys ≢ 512 → written_outcome (record { refusal = 1; place = 0; length = 0 }) tables seen sheet ys output ≡ by_text (as_records ys)
    unfolding after_writing
    other_length_write_text ne =
        rw (length_as_records ys, ne_eqb (length ys) 512 ne, and_false (sheets_fit tables seen && eqb (length sheet) sentence_sheet_size)) refl

    pub listed_write_text : (r : Written) (k : ℕ) (output' tables' seen' sheet' numbers : List ℕ) (zs : List Edge) → length ys ≡ 512
        → (flat.outcome r tables' seen' sheet' numbers output' ≡ after_writing_flat file tables seen sheet zeros output) × (length numbers ≡ length zeros)
        → k ≡ filled_by r.refusal → zs ≡ first_edges numbers k ++ drop k ys → written_outcome r tables' seen' sheet' zs output' ≡ by_text (as_records ys)
    listed_write_text r k output' tables' seen' sheet' numbers zs l e ck full =
        let x : flat.outcome r tables' seen' sheet' numbers output' ≡ flat.flattened (by_text zero_list) = e.0 ∙ by_numbers in
        let o : WritingOutcome = by_text zero_list in
        ap (λ (es : List EdgeRecord). record { answer = answer_of r; tables = tables'; seen = seen'; sheet = sheet'; edges = es; output = output' })
        (filled_list r.refusal k o.edges numbers ys zs ck l (ap (λ (y : WrittenFlat). y.edges) x) (e.1 ∙ length-replicate {A = ℕ} 2048 0) full)
        ∙ ap (λ (y : WrittenFlat). record { answer = y.answer; tables = y.tables; seen = y.seen; sheet = y.sheet; edges = list y.answer.refusal (as_records ys) o.edges; output = y.output }) x
        ∙ listed_by (as_records ys) (length_as_records ys ∙ l)
