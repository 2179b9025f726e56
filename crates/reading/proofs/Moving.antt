-- A line that is granted and put to use, in the rules and in what a reading keeps: the step can be taken, and the two go on
-- together. One law for each taking.
use Prim.Native.Nat.{ℕ, ◌+◌, ◌-◌, ◌≤◌, ◌<◌}
use native.Mathlib.Numerals.{add-one}
use native.Mathlib.Omega.{arith}
use mathlib.Core.Path.{◌≡◌, refl, ap, ◌∙◌}
use mathlib.Core.Bool.{Bool, true, false}
use mathlib.Core.List.{List, [], ◌∷◌, ◌++◌}
use lib.ListN.{length, length-set}
use Rattle.rules.specs.Lists.{pick, bytes, member}
use Rattle.rules.specs.Texts.{Text, reads}
use Rattle.rules.specs.Rules.{Verdict, refused, granted}
use Rattle.rules.specs.Numbers.{file_limit, row_limit}
use Rattle.rules.specs.Tables.{Row}
use Rattle.rules.specs.Rows.{row_of}
use Rattle.rules.specs.Sentences.{Node, Heading, Sentence, heading_of, end_of, so_far}
use Rattle.rules.specs.Nodes.{word_of, phrase_of}
use Rattle.rules.specs.Sheets.{table_sheet}
use Rattle.rules.specs.Keywords.{format_of, table_opened, table_ended, starts_row, starts_word, starts_phrase}
use Rattle.rules.specs.Lines.{Taking, ignored_line, format_line, table_begins, row_line, table_ends, sentence_begins, word_line, phrase_line, sentence_ends, taken_as, at_start, behind_one, at_top, among_rows, among_nodes}
use Rattle.rules.specs.Phases.{Preamble, Phase, start, top, in_table, in_sentence, behind_sentence, Answer, refuse, go, hand, after, line_at, tables_at, sentence_at}
use Rattle.rules.specs.Reading.{Handed, numbers}
use Rattle.rules.proofs.Cut.{last_end_lem}
use Rattle.seen.proofs.SeenSets.{length_seen_set, seen_set_holds, seen_set_more}
use Rattle.table_sheet.specs.Standing.{RowStands}
use Rattle.table_sheet.proofs.OpenSheets.{none_have_room, closed_has_room, length_open_sheet, sheet_opened, sheet_row, sheet_closed}
use Rattle.table_sheet.proofs.Standing.{none_stand, rows_stand_more, tables_stand_closed}
use Rattle.steps.specs.Steps.{step_for}
use Rattle.reading.specs.Effects.{Kept, effect, Applicable}
use Rattle.judging.proofs.Knowing.{sheet_of, TablesKept, RowsKept, SentenceKept, Known, Stamped, Telling, Marks}
use Rattle.reading.proofs.Keeping.{kept_of, Tied}
use Rattle.judging.proofs.Granted.{word_granted, phrase_granted, heading_granted, table_granted}
use Rattle.reading.proofs.Begins.{begins_more}
use Rattle.judging.proofs.Counts.{one_more, tally_with_word, tally_with_phrase, fresh_marks, telling_more}
use Rattle.judging.proofs.KeptOn.{kept_begun, kept_with_word, kept_with_phrase}

-- ---- one sentence more is handed out

numbers_added : (hs : List Handed) (h : Handed) → numbers (hs ++ (h ∷ [])) ≡ numbers hs ++ (h.sentence.heading.number ∷ [])
numbers_added [] h = refl
numbers_added (g ∷ hs) h = ap (λ (l : List ℕ). g.sentence.heading.number ∷ l) (numbers_added hs h)

-- ---- what a taking leaves

abbrev pub handing : ℕ → Sentence → Handed
handing end s = record { end = end; sentence = s }

-- a row's texts, and room for it: what is known of a row that was granted
abbrev pub RowSound : List ℕ → Text → Type 0
RowSound file line = (n : ℕ) (rs : List Row) (r : Row) → row_of n rs line ≡ granted r → RowStands file r × (length rs < row_limit)

module _ (file : List ℕ) (from size : ℕ) (hs : List Handed) (at end : ℕ) (marks : List ℕ) where
  abbrev ns : List ℕ
  ns = numbers hs

  abbrev count : ℕ
  count = length hs

  abbrev pub Left : Answer → Kept → Type 0
  Left (refuse r) k = ⊥
  Left (go ph) k = Tied file from size hs end ph k
  Left (hand p s) k = Tied file from size (hs ++ (handing end s ∷ [])) end (behind_sentence p) k

  pub record Moves (ph : Phase) (t : Taking) : Type 0 where
    pub applies : Applicable (step_for t) (length file) (kept_of marks from size hs ph)
    pub left : Left (after ph at t) (effect from (step_for t) at end (kept_of marks from size hs ph))

  abbrev pub MovesBy : Phase → Verdict Taking → Type 0
  MovesBy ph (refused r) = Unit {0}
  MovesBy ph (granted t) = Moves ph t

  pub chosen : (ph : Phase) (b : Bool) (v w : Verdict Taking) → MovesBy ph v → MovesBy ph w → MovesBy ph (pick b v w)
  chosen ph true v w p q = p
  chosen ph false v w p q = q

  as_taken : {A : Type 0} (ph : Phase) (f : A → Taking) (v : Verdict A) → ((a : A) → v ≡ granted a → Moves ph (f a)) → MovesBy ph (taken_as f v)
  as_taken ph f (refused r) h = tt
  as_taken ph f (granted a) h = h a refl

  module _ (short : length file ≤ file_limit) (room : length marks ≡ 500) (more : at < end) (inside : end ≤ length file) (few : count ≤ at) (line : Text) where
    goes : {ph : Phase} {k : Kept} → k ≡ kept_of k.marks from size hs ph → Known file ns ph → length k.marks ≡ 500 → Marks k.marks count ph
        → (sentence_at ph).start ≤ end → length (sentence_at ph).phrases ≤ end → Tied file from size hs end ph k
    goes e known room m b p = record { is = e; known = known; room = room; marks_are = m; begun = b; phrases = p; handed = omega arith }

    pub ignored_moves : (ph : Phase) → Tied file from size hs at ph (kept_of marks from size hs ph) → Moves ph ignored_line
    unfolding after effect
    ignored_moves ph t =
        record {
          applies = tt;
          left = goes refl t.known room t.marks_are (omega (arith, t.begun)) (omega (arith, t.phrases));
        }

    format_moves : Stamped marks count → (n : ℕ) → Moves start (format_line n)
    unfolding after effect
    format_moves m n =
        record {
          applies = tt;
          left = goes refl (record { fit = none_have_room; stand = none_stand file }) room m (omega arith) (omega arith);
        }

    -- ---- tables

    table_moves : (p : Preamble) → TablesKept file p.tables → Stamped marks count → (n : ℕ) → table_opened p.tables line ≡ granted n → Moves (top p) (table_begins n)
    unfolding after effect
    table_moves p k m n e =
        let g = table_granted p.tables line n e in
        record {
          applies = tt;
          left =
              goes (rw (sheet_opened p.tables n g.absent))
              (record { tables = k; place = g.place; absent = g.absent; few = omega arith; stand = tt }) room m (omega arith)
              (omega arith);
        }

    module _ (p : Preamble) (n : ℕ) (rs : List Row) (k : RowsKept file p.tables n rs) (m : Stamped marks count) where
      sheet_size : length (sheet_of (in_table p n rs)) ≡ 10759
      sheet_size = length_open_sheet p.tables k.tables.fit n rs k.few

      row_moves : RowSound file line → (r : Row) → row_of n rs line ≡ granted r → Moves (in_table p n rs) (row_line r)
      unfolding after effect
      row_moves sound r e =
          let g = sound n rs r e in
          record {
            applies = (k.place, g.1, g.0.first.inside, sheet_size);
            left =
                goes (rw (one_more rs r, sheet_row p.tables k.tables.fit n k.place rs g.1 r))
                (record {
                  tables = k.tables;
                  place = k.place;
                  absent = k.absent;
                  few = omega (arith, one_more rs r, g.1);
                  stand = rows_stand_more file rs r k.stand g.0;
                }) room m (omega arith) (omega arith);
          }

      closed_moves : Moves (in_table p n rs) table_ends
      unfolding after effect
      closed_moves =
          record {
            applies = (k.place, k.few, sheet_size);
            left =
                goes (rw (add-one (length rs), sheet_closed p.tables n (omega (arith, k.place, k.tables.fit.seven)) rs))
                (record {
                  fit = closed_has_room p.tables k.tables.fit n rs k.few;
                  stand = tables_stand_closed file p.tables n rs k.tables.stand k.stand;
                }) room m (omega arith) (omega arith);
          }

    -- ---- a sentence begins, among the tables or behind another

    begun_moves : (ph : Phase) → TablesKept file (tables_at ph) → sheet_of ph ≡ table_sheet (tables_at ph) → Stamped marks count
        → (h : Heading) → heading_of (tables_at ph) (λ n. member n ns) line ≡ granted h → Moves ph (sentence_begins h)
    unfolding after effect
    begun_moves ph k stays m h e =
        let g = heading_granted (tables_at ph) (λ n. member n ns) line h e in
        record {
          applies = tt;
          left =
              goes (rw stays)
              (kept_begun file ns (tables_at ph) at h k g.range g.new)
              room (record { stamped = λ i. omega (arith, m i); tell = fresh_marks marks count m }) (omega arith) (omega arith);
        }

    -- ---- in a sentence

    module _ (p : Preamble) (s : Sentence) (k : SentenceKept file ns p.tables s) (m : Telling marks count s) (before : s.start ≤ at) (ps : length s.phrases ≤ at) where
      word_moves : (n : Node) → word_of p.format p.tables (so_far s) line ≡ granted n → Moves (in_sentence p s) (word_line n)
      unfolding after effect
      word_moves n e =
          let g = word_granted p.format p.tables (so_far s) line n e in
          record {
            applies = (omega (arith, k.words), omega (arith, g.few));
            left =
                goes (rw (tally_with_word s n g.first))
                (kept_with_word file ns p.format p.tables s k line n e) room (record { stamped = m.stamped; tell = m.tell }) (omega arith) (omega arith);
          }

      phrase_moves : (n : Node) → phrase_of p.format p.tables (so_far s) line ≡ granted n → Moves (in_sentence p s) (phrase_line n)
      unfolding after effect
      phrase_moves n e =
          let g = phrase_granted p.format p.tables (so_far s) line n e in
          record {
            applies = (omega arith, omega (arith, g.few), g.low, g.high, omega arith);
            left =
                goes (rw (tally_with_phrase s n g.low))
                (kept_with_phrase file ns p.format p.tables s k line n e) (length-set marks (n.number - 500) (count + 1) ∙ room)
                (rw (add-one count) (telling_more marks count s m n g.low (omega (arith, g.high, room)))) (omega arith)
                (omega (arith, one_more s.phrases n));
          }

      abbrev h : Handed
      h = handing end s

      end_moves : Moves (in_sentence p s) sentence_ends
      unfolding after effect
      end_moves =
          record {
            applies = (
              omega arith,
              omega arith,
              omega (arith, k.number, length_seen_set ns),
              seen_set_holds ns s.heading.number (omega (arith, k.number)) ∙ k.unused,
            );
            left =
                record {
                  is =
                      rw (
                        one_more hs h,
                        last_end_lem hs h,
                        numbers_added hs h,
                        ← begins_more h from size hs k.unused,
                        ← seen_set_more ns s.heading.number (omega (arith, k.number)) k.unused,
                        add-one s.start,
                      );
                  known = k.tables;
                  room = room;
                  marks_are = λ i. rw (one_more hs h, add-one count) (m.stamped i);
                  begun = omega arith;
                  phrases = omega arith;
                  handed = omega (arith, one_more hs h);
                };
          }

    -- ---- in every phase

    pub line_moves : RowSound file line → (first : Text) (ph : Phase) → Tied file from size hs at ph (kept_of marks from size hs ph) → MovesBy ph (line_at ph ns line first)
    unfolding line_at at_start at_top behind_one among_rows among_nodes
    line_moves sound first start t =
        chosen start (reads (bytes "#FORMAT") first) _ _ (as_taken start format_line (format_of line) (λ n e. format_moves t.marks_are n)) tt
    line_moves sound first (top p) t =
        let k = t.known in
        let m = t.marks_are in
        chosen (top p) (reads (bytes "#BOT") first) _ _ (as_taken (top p) table_begins (table_opened p.tables line) (table_moves p k m))
        (chosen (top p) (reads (bytes "#BOS") first) _ _ (as_taken (top p) sentence_begins (heading_of p.tables (λ n. member n ns) line) (begun_moves (top p) k refl m)) tt)
    line_moves sound first (in_table p n rs) t =
        let k = t.known in
        let m = t.marks_are in
        let ph = in_table p n rs in
        chosen ph (reads (bytes "#EOT") first) _ _ (as_taken ph (λ i. table_ends) (table_ended n line) (λ i e. closed_moves p n rs k m))
        (chosen ph (starts_row first) _ _ (as_taken ph row_line (row_of n rs line) (row_moves p n rs k m sound)) tt)
    line_moves sound first (in_sentence p s) t =
        let k = t.known in
        let m = t.marks_are in
        let ph = in_sentence p s in
        chosen ph (reads (bytes "#EOS") first) _ _ (as_taken ph (λ i. sentence_ends) (end_of (so_far s) line) (λ i e. end_moves p s k m t.begun t.phrases))
        (chosen ph (starts_phrase first) _ _ (as_taken ph phrase_line (phrase_of p.format p.tables (so_far s) line) (phrase_moves p s k m t.begun t.phrases))
        (chosen ph (starts_word first) _ _ (as_taken ph word_line (word_of p.format p.tables (so_far s) line) (word_moves p s k m t.begun t.phrases)) tt))
    line_moves sound first (behind_sentence p) t =
        let ph = behind_sentence p in
        chosen ph (reads (bytes "#BOS") first) _ _ (as_taken ph sentence_begins (heading_of p.tables (λ n. member n ns) line) (begun_moves ph t.known refl t.marks_are)) tt
