-- One line takes no more than it and its newline have, wherever a reading stands. Line by line: which line may stand where, and
-- what it is taken for there.
use Prim.Native.Nat.{ℕ, ◌≤◌}
use native.Mathlib.Nat.{zero-add}
use native.Mathlib.Omega.{arith}
use mathlib.Core.Path.{◌≡◌, refl, sym, ap, ap₂, ◌∙◌, subst}
use mathlib.Core.Bool.{true}
use mathlib.Core.List.{List, [], ◌∷◌, ◌++◌}
use lib.ListN.{length}
use lib.Dec.{eqb}
use Rattle.rules.specs.Lists.{pick, bytes, every, member}
use Rattle.rules.specs.Texts.{Text, reads}
use Rattle.rules.specs.Columns.{columns, written}
use Rattle.rules.specs.Numbers.{format_number, number, value, good}
use Rattle.rules.specs.Rules.{rule, Verdict, refused, granted}
use Rattle.rules.specs.Rows.{row_of}
use Rattle.rules.specs.Tables.{Row, no_tables}
use Rattle.rules.specs.Sentences.{Node, Sentence, gapless, parented, heading_written, heading_in, heading_cites, heading_of, end_rules, end_of, so_far}
use Rattle.rules.specs.Keywords.{accepts, format_of, table_opened, table_ended, first_column, starts_row, starts_word, starts_phrase}
use Rattle.rules.specs.Nodes.{word_of, phrase_of}
use Rattle.rules.specs.Phases.{Preamble, Phase, start, top, in_table, in_sentence, behind_sentence, begun, go, hand, next, step, table_at}
use Rattle.rules.specs.Tidy.{digits_of, node_line}
use Rattle.rules.specs.Meaning.{row_id, node_number}
use Rattle.rules.specs.GrammarColumns.{Columns}
use Rattle.rules.specs.GrammarTables.{Names}
use Rattle.rules.proofs.TestsAsFacts.{reads_are, good_some}
use Rattle.rules.proofs.BareColumns.{column_at}
use Rattle.rules.proofs.ColumnsSaid.{columns_said}
use Rattle.rules.proofs.NumbersAgain.{number_again}
use Rattle.rules.proofs.LineByLine.{Through}
use Rattle.rules.proofs.KeywordsAsSaid.{two_columns, opened_granted, ended_granted}
use Rattle.rules.proofs.ReadSoFar.{first_is}
use Rattle.rules.proofs.Conjunctions.{every_front}
use Rattle.rules.proofs.RuleLaws.{holds_of}
use Rattle.rules.proofs.RulesHeld.{held}
use Rattle.rules.proofs.LineFit.{LineFit}
use Rattle.rules.proofs.Takings.{go_begun, go_closed, go_row, go_word, go_phrase, refuse_six, answer_start, answer_behind, answer_top, answer_rows, answer_nodes, answer_at}
use Rattle.rules.proofs.Steps.{either, next_checked}
use Rattle.rules.proofs.NodeLines.{word_read, phrase_read, word_cases, phrase_cases}
use Rattle.rules.proofs.ByLines.{step_taken}
use Rattle.rules.proofs.LinesSaid.{word_said, phrase_said, head_said, end_said}
use Rattle.rules.proofs.RowsSaid.{row_said}
use Rattle.tidy_length.proofs.TakenRoom.{total_more, row_room, closed_room, preamble_room, phase_room, NoMore}
use Rattle.tidy_length.proofs.LinesHaveRoom.{columns_room, word_room, phrase_room, head_room}
use Rattle.tidy_length.proofs.RowsHaveRoom.{row_room_lem}

module _ (line : Text) where
  abbrev l : List ℕ
  l = line.bytes

  abbrev first : Text
  first = first_column line

  stays : (phase : Phase) → NoMore phase line.bytes (go phase)
  stays phase = omega arith

  module _ (fit : LineFit line.bytes) (used : List ℕ) where
    keyword : (xs : List ℕ) → 1 ≤ length xs → reads xs (first_column line) ≡ true → column_at 0 line.bytes ≡ xs
    keyword xs h e = (first_is line xs h ((reads_are xs first).0 e)).1

    -- ---- the format and the tables

    formats : reads (bytes "#FORMAT") (first_column line) ≡ true → NoMore start line.bytes (next (λ n. go (top (record { format = n; tables = no_tables }))) (format_of line))
    unfolding format_of
    formats e =
        let second = written (columns line) 1 in
        let n = number format_number second.bytes in
        let rules = rule 7 line (eqb (length (columns line)) 2) ∷ rule 8 second (good n) ∷ rule 9 line (accepts (value n)) ∷ [] in
        next_checked (NoMore start l) (λ r h. tt) (λ m. go (top (record { format = m; tables = no_tables }))) rules (value n) refl
        (λ h.
        let its : digits_of (value n) ≡ second.bytes = number_again format_number second.bytes (value n) (good_some n (held rules h).1.0) in
        let said : Columns l (bytes "#FORMAT" ∷ digits_of (value n) ∷ []) =
        columns_said l (bytes "#FORMAT" ∷ digits_of (value n) ∷ []) (two_columns line (held rules h).0 ∙ ap₂ (λ (x y : List ℕ). x ∷ y ∷ []) (keyword (bytes "#FORMAT") (omega arith) e) (sym its)) in
        omega (arith, columns_room l (bytes "#FORMAT") (digits_of (value n) ∷ []) said))

    opens : (p : Preamble) → reads (bytes "#BOT") (first_column line) ≡ true → NoMore (top p) line.bytes (next (λ n. go (in_table p n [])) (table_opened p.tables line))
    opens p e = by (table_opened p.tables line) refl
      where
        by : (v : Verdict ℕ) → table_opened p.tables line ≡ v → NoMore (top p) line.bytes (next (λ n. go (in_table p n [])) v)
        by (refused r) q = tt
        by (granted n) q =
            let K : Phase → List Sentence → Type 0 = λ (phase : Phase) (out : List Sentence). phase ≡ in_table p n [] in
            let o = opened_granted K [] line (λ m. go (in_table p m [])) p.tables (keyword (bytes "#BOT") (omega arith) e)
            (subst (λ (v : Verdict ℕ). Through K [] (next (λ m. go (in_table p m [])) v)) (sym q) refl) in
            let names : Names (bytes "#BOT") n l = subst (λ (m : ℕ). Names (bytes "#BOT") m l) (ap table_at o.goes_on) o.names in
            omega (arith, columns_room l (bytes "#BOT") _ names)

    closes : (p : Preamble) (n : ℕ) (rs : List Row) → reads (bytes "#EOT") (first_column line) ≡ true → NoMore (in_table p n rs) line.bytes (next (λ m. go_closed p n rs) (table_ended n line))
    closes p n rs e = by (table_ended n line) refl
      where
        by : (v : Verdict ℕ) → table_ended n line ≡ v → NoMore (in_table p n rs) line.bytes (next (λ m. go_closed p n rs) v)
        by (refused r) q = tt
        by (granted m) q =
            let K : Phase → List Sentence → Type 0 = λ (phase : Phase) (out : List Sentence). Unit {0} in
            let o = ended_granted K [] line (λ i. go_closed p n rs) n (keyword (bytes "#EOT") (omega arith) e)
            (subst (λ (v : Verdict ℕ). Through K [] (next (λ i. go_closed p n rs) v)) (sym q) tt) in
            omega (arith, columns_room l (bytes "#EOT") _ o.0, rw zero-add at (closed_room 0 n p.tables rs))

    rows_go : (p : Preamble) (n : ℕ) (rs : List Row) → NoMore (in_table p n rs) line.bytes (next (go_row p n rs) (row_of n rs line))
    rows_go p n rs =
        row_said line (NoMore (in_table p n rs) l) (λ r. tt) (go_row p n rs) n rs (λ r w. omega (arith, row_room_lem n r l w, total_more row_id (row_room n) rs r))

    -- ---- sentences

    begins : (phase : Phase) (p : Preamble) → phase_room phase ≡ preamble_room p → NoMore phase line.bytes (answer_behind line (first_column line) p used)
    unfolding answer_behind heading_of
    begins phase p same-room =
        either (NoMore phase l) (reads (bytes "#BOS") first) _ (refuse_six line)
        (λ e. next_checked (NoMore phase l) (λ r h. tt) (go_begun p line.start) (heading_written line ++ heading_cites p.tables (λ n. member n used) line) (heading_in line) refl
        (λ h.
        let said = head_said line (keyword (bytes "#BOS") (omega arith) e) (held (heading_written line) (every_front holds_of (heading_written line) (heading_cites p.tables (λ n. member n used) line) h)) in
        omega (arith, head_room (begun line.start (heading_in line)) l said)))
        (λ e. tt)

    module _ (p : Preamble) (s : Sentence) where
      ends : reads (bytes "#EOS") (first_column line) ≡ true → NoMore (in_sentence p s) line.bytes (next (λ n. hand p s) (end_of (so_far s) line))
      unfolding end_of end_rules
      ends e =
          let rules = end_rules s.heading.number (gapless s.phrases) (every (parented s.phrases) (s.words ++ s.phrases)) line in
          next_checked (NoMore (in_sentence p s) l) (λ r h. tt) (λ n. hand p s) rules s.heading.number refl
          (λ h. omega (arith, columns_room l (bytes "#EOS") (digits_of s.heading.number ∷ []) (end_said s line (keyword (bytes "#EOS") (omega arith) e) (held rules h))))

      words_go : NoMore (in_sentence p s) line.bytes (next (go_word p s) (word_of p.format p.tables (so_far s) line))
      words_go =
          word_cases p.format p.tables (so_far s) line (NoMore (in_sentence p s) l) (λ r h. tt) (go_word p s)
          (λ h.
          let word = word_read p.format p.tables (so_far s) line in
          omega (arith, word_room word l (word_said line p.format p.tables (so_far s) h), total_more node_number (λ (n : Node). length (node_line n)) s.words word))

      phrases_go : starts_phrase (first_column line) ≡ true → NoMore (in_sentence p s) line.bytes (next (go_phrase p s) (phrase_of p.format p.tables (so_far s) line))
      phrases_go e =
          phrase_cases p.format p.tables (so_far s) line (NoMore (in_sentence p s) l) (λ r h. tt) (go_phrase p s)
          (λ n h.
          let phrase = phrase_read p.format p.tables (so_far s) line n in
          omega (arith, phrase_room phrase l (phrase_said line p.format p.tables (so_far s) n fit e h), total_more node_number (λ (n : Node). length (node_line n)) s.phrases phrase))

    -- ---- any line

    line_goes : (phase : Phase) → NoMore phase line.bytes (answer_at phase used line (first_column line))
    unfolding answer_at answer_start answer_top answer_rows answer_nodes
    line_goes start = either (NoMore start l) (reads (bytes "#FORMAT") first) _ (refuse_six line) formats (λ e. tt)
    line_goes (top p) = either (NoMore (top p) l) (reads (bytes "#BOT") first) _ (answer_behind line first p used) (opens p) (λ e. begins (top p) p refl)
    line_goes (in_table p n rs) =
        either (NoMore (in_table p n rs) l) (reads (bytes "#EOT") first) _ (pick (starts_row first) (next (go_row p n rs) (row_of n rs line)) (refuse_six line)) (closes p n rs)
        (λ e. either (NoMore (in_table p n rs) l) (starts_row first) (next (go_row p n rs) (row_of n rs line)) (refuse_six line) (λ z. rows_go p n rs) (λ z. tt))
    line_goes (in_sentence p s) =
        let words = next (go_word p s) (word_of p.format p.tables (so_far s) line) in
        let phrases = next (go_phrase p s) (phrase_of p.format p.tables (so_far s) line) in
        either (NoMore (in_sentence p s) l) (reads (bytes "#EOS") first) (next (λ n. hand p s) (end_of (so_far s) line)) (pick (starts_phrase first) phrases (pick (starts_word first) words (refuse_six line))) (ends p s)
        (λ e. either (NoMore (in_sentence p s) l) (starts_phrase first) phrases (pick (starts_word first) words (refuse_six line)) (phrases_go p s)
        (λ z. either (NoMore (in_sentence p s) l) (starts_word first) words (refuse_six line) (λ y. words_go p s) (λ y. tt)))
    line_goes (behind_sentence p) = begins (behind_sentence p) p refl

  pub step_room : (phase : Phase) (used : List ℕ) → NoMore phase line.bytes (step phase used line)
  step_room phase used = step_taken (NoMore phase l) (λ r. tt) phase used line (λ e. stays phase) (λ fit. line_goes fit used phase)
