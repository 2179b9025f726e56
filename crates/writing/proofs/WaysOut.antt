-- What a writing answers and leaves in the lent buffers, for each way out: a wrong size, a file too long, one that is refused,
-- and one whose text is known.
use Prim.Native.Nat.{ℕ, ◌≤◌, ◌<◌}
use native.Mathlib.Nat.{zero-add}
use native.Mathlib.Omega.{arith}
use mathlib.Core.Path.{◌≡◌, refl, sym, ap, ap₂, ◌∙◌}
use mathlib.Core.Bool.{Bool, true, false, ◌&&◌}
use mathlib.Core.List.{List, ◌++◌}
use lib.ListN.{length, drop, replicate}
use lib.Dec.{leb, eqb}
use borrow.Author.Tests.{eqb-true, eq-eqb, ne_eqb, le-leb, lt-leb}
use Rattle.rules.specs.Lists.{pick}
use Rattle.rules.specs.Numbers.{file_limit, edge_limit}
use Rattle.rules.specs.Reading.{numbers}
use Rattle.rules.specs.Sheets.{table_sheet, seen_set, sentence_sheet_size, EdgeRecord}
use Rattle.rules.specs.Survey.{survey_of, sheets_fit, file_fits}
use Rattle.rules.specs.Writing as rules
use Rattle.rules.specs.Layout.{flat_list}
use Rattle.rules.proofs.Conjunctions.{and_both, and_left, and_right}
use Rattle.printing.specs.Over.{Put}
use Rattle.printing.proofs.OverLaws.{over_fits}
use Rattle.opening.specs.FlatLists.{edge_records, flat_size}
use Rattle.opening.specs.Promise.{all_flat_fit}
use Rattle.opening.proofs.Flattened.{length_records, flat_records, flat_none}
use Rattle.writing.specs.declared.Written.{Written}
use Rattle.writing.specs.Promise.{WrittenFlat, flattened, after_writing_flat, answer_of, outcome, has_room, answer_by, WrittenBy}

-- ---- sizes

pub record Sized (tables seen sheet edges : List ℕ) : Type 0 where
  pub sheets : sheets_fit tables seen ≡ true
  pub sheet_size : length sheet ≡ sentence_sheet_size
  pub edges_size : length edges ≡ flat_size

pub sizes : (tables seen sheet edges : List ℕ) → all_flat_fit tables seen sheet edges ≡ true → Sized tables seen sheet edges
sizes tables seen sheet edges e =
    let a = sheets_fit tables seen in
    let b = eqb (length sheet) sentence_sheet_size in
    let c = eqb (length edges) flat_size in
    let front = and_left (a && b) c e in
    record {
      sheets = and_left a b front;
      sheet_size = eqb-true (length sheet) sentence_sheet_size (and_right a b front);
      edges_size = eqb-true (length edges) flat_size (and_right (a && b) c e);
    }

-- ---- by a text

module _ (file text output : List ℕ) where
  room_for : length text ≤ length output → length text ≤ file_limit → has_room text output ≡ true
  room_for a b = and_both (leb (length text) (length output)) (leb (length text) file_limit) (le-leb (length text) (length output) a) (le-leb (length text) file_limit b)

  no_output : length output < length text → has_room text output ≡ false
  no_output h = ap (λ (t : Bool). t && leb (length text) file_limit) (lt-leb (length text) (length output) h)

  past_limit : length text ≤ length output → file_limit < length text → has_room text output ≡ false
  past_limit a b = ap₂ ◌&&◌ (le-leb (length text) (length output) a) (lt-leb (length text) file_limit b)

  no_room : (r : Written) → has_room text output ≡ false → answer_of r ≡ record { refusal = 25; place = length file; written = 0 } → WrittenBy file text output r output
  no_room r e q =
      record { answer = q ∙ rw e refl; output_is = rw e }

  -- the length that was measured
  module _ (most : ℕ) (lent after : List ℕ) (n : ℕ) (p : Put most text 0 lent n after) where
    measured : n ≡ length text
    measured = p.place ∙ zero-add (length text)

    pub too_short : (r : Written) → length output < n → answer_of r ≡ record { refusal = 25; place = length file; written = 0 } → WrittenBy file text output r output
    too_short r h q = no_room r (no_output (omega (arith, measured, h))) q

    pub too_large : (r : Written) → n ≤ length output → file_limit < n → answer_of r ≡ record { refusal = 25; place = length file; written = 0 } → WrittenBy file text output r output
    too_large r a b q = no_room r (past_limit (omega (arith, measured, a)) (omega (arith, measured, b))) q

    pub granted : (r : Written) (end : ℕ) (written : List ℕ) → n ≤ length output → n ≤ file_limit → Put most text 0 output end written
        → answer_of r ≡ record { refusal = 0; place = length file; written = n } → WrittenBy file text output r written
    granted r end written a b q e =
        let room = room_for (omega (arith, measured, a)) (omega (arith, measured, b)) in
        let fits = over_fits 0 text output (omega (arith, measured, a)) in
        record {
          answer = e ∙ ap (λ (k : ℕ). record { refusal = 0; place = length file; written = k }) measured ∙ rw room refl;
          output_is = q.bytes ∙ fits ∙ ap (λ (k : ℕ). text ++ drop k output) (zero-add (length text)) ∙ rw room refl;
        }

-- ---- with lent buffers

module _ (file tables seen sheet edges output : List ℕ) (r : Written) where
  abbrev Promised : List ℕ → List ℕ → List ℕ → List ℕ → List ℕ → Type 0
  Promised tables' seen' sheet' edges' output' = outcome r tables' seen' sheet' edges' output' ≡ after_writing_flat file tables seen sheet edges output

  abbrev es : List EdgeRecord
  es = edge_records edge_limit edges

  abbrev front : Bool
  front = sheets_fit tables seen && eqb (length sheet) sentence_sheet_size

  -- the list's length is tested as numbers; as records it then has its own
  records_fit : eqb (length edges) flat_size ≡ true → (front && eqb (length es) edge_limit) ≡ all_flat_fit tables seen sheet edges
  records_fit e = rw (length_records edge_limit edges, e)

  back_flat : eqb (length edges) flat_size ≡ true → flat_list es ≡ edges
  back_flat e = flat_records edge_limit edges (eqb-true (length edges) flat_size e)

  pub unfit : all_flat_fit tables seen sheet edges ≡ false → answer_of r ≡ record { refusal = 1; place = 0; written = 0 } → Promised tables seen sheet edges output
  unfolding after_writing_flat rules.after_writing
  unfit e q = ap (λ (a : rules.Written). record { answer = a; tables = tables; seen = seen; sheet = sheet; edges = edges; output = output }) q ∙ by (eqb (length edges) flat_size) refl
    where
      unread : WrittenFlat
      unread = record { answer = record { refusal = 1; place = 0; written = 0 }; tables = tables; seen = seen; sheet = sheet; edges = edges; output = output }

      by : (t : Bool) → eqb (length edges) flat_size ≡ t → unread ≡ pick t (flattened (rules.after_writing file tables seen sheet es output)) unread
      by true l = rw (records_fit l, e, back_flat l)
      by false l = refl

  module _ (fits : all_flat_fit tables seen sheet edges ≡ true) where
    long : eqb (length edges) flat_size ≡ true
    long = and_right front (eqb (length edges) flat_size) fits

    pub too_long : file_fits file ≡ false → answer_of r ≡ record { refusal = 2; place = 0; written = 0 } → Promised tables seen sheet edges output
    unfolding after_writing_flat rules.after_writing
    too_long h q = ap (λ (a : rules.Written). record { answer = a; tables = tables; seen = seen; sheet = sheet; edges = edges; output = output }) q
        ∙ rw (records_fit long, fits, long, h, back_flat long) refl

    -- the file is read
    module _ (tables' seen' sheet' edges' : List ℕ) (h : file_fits file ≡ true) (t : tables' ≡ table_sheet (survey_of file).tables) (u : seen' ≡ seen_set (numbers (survey_of file).handed))
        (a : sheet' ≡ replicate sentence_sheet_size 0) (b : edges' ≡ replicate flat_size 0) where
      pub answered_so : (output' : List ℕ) → answer_of r ≡ rules.writing_answer file output → output' ≡ rules.output_after file output → Promised tables' seen' sheet' edges' output'
      unfolding after_writing_flat rules.after_writing
      answered_so output' q o =
          ap₂ (λ (x : rules.Written) (l : List ℕ). record { answer = x; tables = l; seen = seen'; sheet = sheet'; edges = edges'; output = output' }) q t
          ∙ ap₂ (λ (l m : List ℕ). record { answer = rules.writing_answer file output; tables = table_sheet (survey_of file).tables; seen = l; sheet = m; edges = edges'; output = output' }) u a
          ∙ ap₂ (λ (l m : List ℕ). record { answer = rules.writing_answer file output; tables = table_sheet (survey_of file).tables; seen = seen_set (numbers (survey_of file).handed); sheet = replicate sentence_sheet_size 0; edges = l; output = m }) (b ∙ sym (flat_none edge_limit)) o
          ∙ rw (records_fit long, fits, long, h) refl

      pub refused : ((survey_of file).refusal ≡ 0 → ⊥) → answer_of r ≡ record { refusal = (survey_of file).refusal; place = (survey_of file).place; written = 0 } → Promised tables' seen' sheet' edges' output
      refused z q =
          let e = ne_eqb (survey_of file).refusal 0 z in
          answered_so output (q ∙ rw e refl) (rw (e, e))

      pub written : (survey_of file).refusal ≡ 0 → (text output' : List ℕ) → rules.tidy_of file ≡ text → WrittenBy file text output r output' → Promised tables' seen' sheet' edges' output'
      written z text output' e w =
          let zero = eq-eqb (survey_of file).refusal 0 z in
          let answer : rules.writing_answer file output ≡ answer_by file text output = rw (zero, e) in
          answered_so output' (w.answer ∙ sym answer)
          (w.output_is ∙ by (has_room text output) ∙ sym (ap (λ (x : rules.Written). pick (eqb x.refusal 0) (rules.written_over (rules.tidy_of file) output) output) answer ∙ ap (λ (l : List ℕ). pick (eqb (answer_by file text output).refusal 0) (rules.written_over l output) output) e))
        where
          by : (t : Bool) → pick t (rules.written_over text output) output
              ≡ pick (eqb (pick {X = rules.Written} t (record { refusal = 0; place = length file; written = length text }) (record { refusal = 25; place = length file; written = 0 })).refusal 0) (rules.written_over text output) output
          by true = refl
          by false = refl
