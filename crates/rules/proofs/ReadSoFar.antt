-- A line that is taken leads from what was read to what was read: whatever a reading accepts is as the grammar says. One
-- law for each kind of line.
use Prim.Native.Nat.{ℕ, ◌≤◌}
use native.Mathlib.Omega.{arith}
use mathlib.Core.Path.{◌≡◌, refl, sym, ap, ◌∙◌, subst}
use mathlib.Core.Bool.{Bool, true, false, false≢true, not, ◌&&◌}
use mathlib.Core.List.{List, [], ◌∷◌, ◌++◌, append_assoc, append-nil}
use lib.ListN.{length}
use Rattle.rules.specs.Lists.{pick, bytes, empty, member}
use Rattle.rules.specs.Texts.{Text, reads}
use Rattle.rules.specs.Tables.{Row, no_tables}
use Rattle.rules.specs.Sentences.{Sentence, heading_of}
use Rattle.rules.specs.Rows.{row_of}
use Rattle.rules.specs.Keywords.{format_of, table_opened, table_ended, first_column, hashed, starts_row}
use Rattle.rules.specs.Phases.{Preamble, Phase, top, in_table, in_sentence, go, next, begun, with_table}
use Rattle.rules.specs.GrammarLines.{In}
use Rattle.rules.proofs.Takings.{go_begun, go_closed, go_row, refuse_six, answer_start, answer_behind, answer_top, answer_rows}
use Rattle.rules.proofs.EachElement.{each_more}
use Rattle.rules.proofs.Elements.{map_append}
use Rattle.rules.proofs.BareColumns.{column_at}
use Rattle.rules.specs.GrammarRows.{RowLine}
use Rattle.rules.specs.GrammarTables.{TableLines, TableFits, table_lines}
use Rattle.rules.proofs.BytesAsSaid.{Started}
use Rattle.rules.proofs.SaidOfLists.{differ_map_more}
use Rattle.rules.proofs.TestsAsFacts.{reads_are, is_member}
use Rattle.rules.proofs.RowsAlike.{alike_more}
use Rattle.rules.proofs.RowTests.{no_rows}
use Rattle.rules.proofs.RowsGranted.{row_granted}
use Rattle.rules.proofs.TablesAsSaid.{stand_none, stand_more, is_there}
use Rattle.rules.proofs.KeywordsAsSaid.{first_starts, starts_first, format_granted, opened_granted, ended_granted}
use Rattle.rules.proofs.HeadsAsSaid.{head_granted}
use Rattle.rules.proofs.WhatWasRead.{pre_lines, row_lines, Prior, prior_lines, AtTop, InTable, WasRead, joined_more}
use Rattle.rules.proofs.LineByLine.{numbers_in, Through}

-- ---- the first column tells a keyword

pub first_is : (line : Text) (xs : List ℕ) → 1 ≤ length xs → (first_column line).bytes ≡ xs → Started line.bytes × (column_at 0 line.bytes ≡ xs)
first_is line xs h e =
    let s = first_starts line (subst (λ (xs : List ℕ). 1 ≤ length xs) (sym e) h) in
    (s, sym (starts_first line s) ∙ e)

module _ (K : Phase → List Sentence → Type 0) (out : List Sentence) (done : List (List ℕ)) (line : Text) where
  -- where the reading goes on, and what it has read then
  pub record Onward : Type 0 where
    pub phase : Phase
    pub out_then : List Sentence
    pub was_read : WasRead phase out_then (done ++ (line.bytes ∷ []))
    pub starts : Started line.bytes
    pub kept : K phase out_then

  pub keyword : (xs : List ℕ) → 1 ≤ length xs → reads xs (first_column line) ≡ true → Started line.bytes × (column_at 0 line.bytes ≡ xs)
  keyword xs h e = first_is line xs h ((reads_are xs (first_column line)).0 e)

  pub from_start : (done ≡ []) × (out ≡ []) → Through K out (answer_start line (first_column line)) → Onward
  unfolding answer_start
  from_start r g = by (reads (bytes "#FORMAT") (first_column line)) refl g
    where
      by : (t : Bool) → reads (bytes "#FORMAT") (first_column line) ≡ t
          → Through K out (pick t (next (λ n. go (top (record { format = n; tables = no_tables }))) (format_of line)) (refuse_six line)) → Onward
      by true e g =
          let k = keyword (bytes "#FORMAT") (omega arith) e in
          let f = format_granted K out line (λ n. go (top (record { format = n; tables = no_tables }))) k.1 g in
          record {
            phase = top (record { format = f.0; tables = no_tables });
            out_then = out;
            was_read =
                record {
                  pre = record { format_line = line.bytes; ts = []; format_fits = f.1.0; each_table = tt; once = tt; stand = stand_none };
                  none_out = r.1;
                  lines = ap (λ (ls : List (List ℕ)). ls ++ (line.bytes ∷ [])) r.0;
                };
            starts = k.0;
            kept = f.1.1;
          }
      by false e g = absurd g

  pub begin_sentence : (p : Preamble) (r : Prior p out) → done ≡ prior_lines p out r → Through K out (answer_behind line (first_column line) p (numbers_in out)) → Onward
  unfolding answer_behind
  begin_sentence p r d g = by (reads (bytes "#BOS") (first_column line)) refl g
    where
      by : (t : Bool) → reads (bytes "#BOS") (first_column line) ≡ t
          → Through K out (pick t (next (go_begun p line.start) (heading_of p.tables (λ n. member n (numbers_in out)) line)) (refuse_six line)) → Onward
      by true e g =
          let k = keyword (bytes "#BOS") (omega arith) e in
          let h = head_granted p.tables r.pre.ts r.pre.stand K out line (λ n. member n (numbers_in out)) (go_begun p line.start) k.1 g in
          record {
            phase = in_sentence p (begun line.start h.read_as);
            out_then = out;
            was_read =
                record {
                  prior = r;
                  both = record { origin_there = h.origin_there; editor_there = h.editor_there };
                  head = h.head;
                  words = [];
                  phrases = [];
                  head_fits = h.fit;
                  new = λ i. h.new ((is_member h.head.number (numbers_in out)).1 (subst (In h.head.number) (sym r.out_are) i));
                  each_word = tt;
                  each_phrase = tt;
                  words_at_most = omega arith;
                  edges_at_most = omega arith;
                  numbers_differ = tt;
                  alike = record { heading_is = h.same; words_are = refl; phrases_are = refl };
                  lines = ap (λ (ls : List (List ℕ)). ls ++ (line.bytes ∷ [])) d ∙ ap (λ (l : List ℕ). prior_lines p out r ++ (l ∷ [])) (sym h.its_line);
                };
            starts = k.0;
            kept = h.goes_on;
          }
      by false e g = absurd g

  pub from_top : (p : Preamble) → AtTop p out done → Through K out (answer_top line (first_column line) p (numbers_in out)) → Onward
  unfolding answer_top
  from_top p r g = by (reads (bytes "#BOT") (first_column line)) refl g
    where
      by : (t : Bool) → reads (bytes "#BOT") (first_column line) ≡ t
          → Through K out (pick t (next (λ n. go (in_table p n [])) (table_opened p.tables line)) (answer_behind line (first_column line) p (numbers_in out))) → Onward
      by true e g =
          let k = keyword (bytes "#BOT") (omega arith) e in
          let o = opened_granted K out line (λ n. go (in_table p n [])) p.tables k.1 g in
          record {
            phase = in_table p o.which [];
            out_then = out;
            was_read =
                record {
                  pre = r.pre;
                  none_out = r.none_out;
                  one_of_seven = o.one_of_seven;
                  new = λ i. o.new ((is_there p.tables r.pre.ts r.pre.stand o.which).1 i);
                  bot = line.bytes;
                  begins = o.names;
                  rows = [];
                  alike = refl;
                  fit = no_rows o.which;
                  lines = ap (λ (ls : List (List ℕ)). ls ++ (line.bytes ∷ [])) r.lines;
                };
            starts = k.0;
            kept = o.goes_on;
          }
      by false e g =
          begin_sentence p (record { pre = r.pre; ss = []; each = tt; differ = tt; out_are = ap numbers_in r.none_out })
          (r.lines ∙ sym (append-nil (pre_lines r.pre.format_line r.pre.ts))) g

  -- ---- in a table

  pub row_first_given : starts_row (first_column line) ≡ true → 1 ≤ length (first_column line).bytes
  row_first_given e = by (first_column line).bytes e
    where
      by : (xs : List ℕ) → (not (empty xs) && not (hashed xs)) ≡ true → 1 ≤ length xs
      by [] e = absurd (false≢true e)
      by (x ∷ xs) e = omega arith

  pub from_table : (p : Preamble) (n : ℕ) (rs : List Row) → InTable p n rs out done → Through K out (answer_rows line (first_column line) p n rs) → Onward
  unfolding answer_rows
  from_table p n rs r g = by (reads (bytes "#EOT") (first_column line)) refl g
    where
      row : (t : Bool) → starts_row (first_column line) ≡ t → Through K out (pick t (next (go_row p n rs) (row_of n rs line)) (refuse_six line)) → Onward
      row true e g =
          let o = row_granted rs r.rows r.alike K out (go_row p n rs) line n r.fit g in
          record {
            phase = in_table p n (rs ++ (o.read_as ∷ []));
            out_then = out;
            was_read =
                record {
                  pre = r.pre;
                  none_out = r.none_out;
                  one_of_seven = r.one_of_seven;
                  new = r.new;
                  bot = r.bot;
                  begins = r.begins;
                  rows = r.rows ++ (o.row ∷ []);
                  alike = alike_more rs r.rows o.read_as o.row r.alike o.alike;
                  fit = o.fit;
                  lines =
                      ap (λ (ls : List (List ℕ)). ls ++ (line.bytes ∷ [])) r.lines
                      ∙ append_assoc (pre_lines r.pre.format_line r.pre.ts) (r.bot ∷ row_lines r.rows) (line.bytes ∷ [])
                      ∙ ap (λ (l : List ℕ). pre_lines r.pre.format_line r.pre.ts ++ (r.bot ∷ row_lines r.rows ++ (l ∷ []))) (sym o.its_line)
                      ∙ ap (λ (ls : List (List ℕ)). pre_lines r.pre.format_line r.pre.ts ++ (r.bot ∷ ls)) (sym (map_append (λ (r : RowLine). r.line) r.rows (o.row ∷ [])));
                };
            starts = first_starts line (row_first_given e);
            kept = o.goes_on;
          }
      row false e g = absurd g

      by : (t : Bool) → reads (bytes "#EOT") (first_column line) ≡ t
          → Through K out (pick t (next (λ m. go_closed p n rs) (table_ended n line)) (pick (starts_row (first_column line)) (next (go_row p n rs) (row_of n rs line)) (refuse_six line)))
          → Onward
      by true e g =
          let k = keyword (bytes "#EOT") (omega arith) e in
          let o = ended_granted K out line (λ m. go_closed p n rs) n k.1 g in
          let t : TableLines = record { which = n; bot = r.bot; rows = r.rows; eot = line.bytes } in
          let whole : TableFits t = record { one_of_seven = r.one_of_seven; begins = r.begins; rows_fit = r.fit; ends = o.0 } in
          record {
            phase = top (with_table p n rs);
            out_then = out;
            was_read =
                record {
                  pre =
                      record {
                        format_line = r.pre.format_line;
                        ts = r.pre.ts ++ (t ∷ []);
                        format_fits = r.pre.format_fits;
                        each_table = each_more TableFits r.pre.ts t r.pre.each_table whole;
                        once = differ_map_more (λ (t : TableLines). t.which) r.pre.ts t r.pre.once r.new;
                        stand = stand_more p.tables r.pre.ts r.pre.stand t rs r.one_of_seven r.new r.alike;
                      };
                  none_out = r.none_out;
                  lines =
                      ap (λ (ls : List (List ℕ)). ls ++ (line.bytes ∷ [])) r.lines
                      ∙ append_assoc (pre_lines r.pre.format_line r.pre.ts) (r.bot ∷ row_lines r.rows) (line.bytes ∷ [])
                      ∙ ap (λ (ls : List (List ℕ)). r.pre.format_line ∷ ls) (sym (joined_more table_lines r.pre.ts t));
                };
            starts = k.0;
            kept = o.1;
          }
      by false e g = row (starts_row (first_column line)) refl g
