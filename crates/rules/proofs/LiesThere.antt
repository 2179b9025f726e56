-- Every text of a row of a closed table and of a sentence handed out, of any file, stands in the file where it says. Line by
-- line: a line stands in the file, and so does what it is taken for.
use Prim.Native.Nat.{ℕ, zero, suc, ◌+◌}
use native.Mathlib.Omega.{arith}
use mathlib.Core.Path.{◌≡◌, refl, sym, ap, ◌∙◌, subst}
use mathlib.Core.Logic.{inl, inr}
use mathlib.Core.Bool.{Bool, true, false}
use Rattle.std.specs.Prelude.{Option, Some}
use mathlib.Core.List.{List, [], ◌∷◌, ◌++◌, append_assoc}
use lib.ListN.{length, take, drop, length-append, set}
use lib.Seq.{drop_at}
use Rattle.rules.specs.Lists.{pick, bytes, member, Each}
use Rattle.rules.specs.Bytes.{newline}
use Rattle.rules.specs.Texts.{Text, reads}
use Rattle.rules.specs.Rules.{Rule}
use Rattle.rules.specs.Tables.{Tables, Row, rows_of, no_tables}
use Rattle.rules.specs.Sentences.{Node, Sentence, heading_in, heading_of, end_of, so_far}
use Rattle.rules.specs.Nodes.{word_of, phrase_of}
use Rattle.rules.specs.Keywords.{format_of, table_opened, table_ended, first_column, starts_row, starts_word, starts_phrase}
use Rattle.rules.specs.Rows.{row_of}
use Rattle.rules.specs.Phases.{Preamble, Phase, start, top, in_table, in_sentence, behind_sentence, begun, with_word, with_phrase, Answer, refuse, go, hand, next, step, tables_at}
use Rattle.rules.specs.Reading.{begin, line, read}
use Rattle.rules.specs.Survey.{answered, nothing_read, survey_of, file_fits}
use Rattle.rules.specs.Places.{RowLies, NodeLies, AfterNewline, StartsLine, SentenceLies, HandedLies, LiesThere}
use Rattle.rules.proofs.EachElement.{each_more}
use Rattle.rules.proofs.ByLines.{LineAnswered, ReadByLines, by_lines}
use Rattle.rules.proofs.LineFit.{LineFit}
use Rattle.rules.proofs.Takings.{go_begun, go_closed, go_row, go_word, go_phrase, refuse_six, answer_start, answer_behind, answer_top, answer_rows, answer_nodes, answer_at}
use Rattle.rules.proofs.Steps.{either, step_cases}
use Rattle.rules.proofs.TextPlaces.{Part}
use Rattle.rules.proofs.LinePlaces.{if_granted, row_lies, word_lies, phrase_lies, heading_lies, keyword_lies}

module _ (file : List ℕ) where
  abbrev pub TablesLie : Tables → Type 0
  TablesLie ts = Each (λ (t : Option (List Row)). Each (RowLies file) (rows_of t)) ts

  -- where a reading stands
  abbrev pub PhaseLies : Phase → Type 0
  PhaseLies start = Unit {0}
  PhaseLies (top p) = TablesLie p.tables
  PhaseLies (in_table p n rs) = TablesLie p.tables × Each (RowLies file) rs
  PhaseLies (in_sentence p s) = TablesLie p.tables × SentenceLies file s
  PhaseLies (behind_sentence p) = TablesLie p.tables

  abbrev AnswerLies : Answer → Type 0
  AnswerLies (refuse r) = Unit {0}
  AnswerLies (go phase) = PhaseLies phase
  AnswerLies (hand p s) = TablesLie p.tables × SentenceLies file s

  pub phase_tables : (phase : Phase) → PhaseLies phase → TablesLie (tables_at phase)
  phase_tables start k = (tt, (tt, (tt, (tt, (tt, (tt, (tt, tt)))))))
  phase_tables (top p) k = k
  phase_tables (in_table p n rs) k = k.0
  phase_tables (in_sentence p s) k = k.0
  phase_tables (behind_sentence p) k = k

  closed_lies : (ts : Tables) (n : ℕ) (rs : List Row) → TablesLie ts → Each (RowLies file) rs → TablesLie (set ts n (Some rs))
  closed_lies [] n rs k l = tt
  closed_lies (t ∷ ts) zero rs k l = (l, k.1)
  closed_lies (t ∷ ts) (suc n) rs k l = (k.0, closed_lies ts n rs k.1 l)

  one_word : (s : Sentence) (n : Node) → SentenceLies file s → NodeLies file n → SentenceLies file (with_word s n)
  one_word s n k l = record { begins = k.begins; line = k.line; comment = k.comment; words = each_more (NodeLies file) s.words n k.words l; phrases = k.phrases }

  one_phrase : (s : Sentence) (n : Node) → SentenceLies file s → NodeLies file n → SentenceLies file (with_phrase s n)
  one_phrase s n k l = record { begins = k.begins; line = k.line; comment = k.comment; words = k.words; phrases = each_more (NodeLies file) s.phrases n k.phrases l }

  -- ---- one line

  bad : (r : Rule) → AnswerLies (refuse r)
  bad r = tt

  module _ (line : Text) (stands : Part 0 file line) (starts : StartsLine file line.start) (fit : LineFit line.bytes) where
    abbrev first : Text
    first = first_column line

    pub begun_lies : reads (bytes "#BOS") (first_column line) ≡ true → SentenceLies file (begun line.start (heading_in line))
    begun_lies e = record { begins = keyword_lies file line stands fit (bytes "#BOS") refl e; line = starts; comment = heading_lies file line stands; words = tt; phrases = tt }

    begins_lie : (p : Preamble) (used : List ℕ) → TablesLie p.tables → reads (bytes "#BOS") first ≡ true
        → AnswerLies (next (go_begun p line.start) (heading_of p.tables (λ n. member n used) line))
    unfolding heading_of
    begins_lie p used k e =
        if_granted AnswerLies bad (go_begun p line.start) _ _ (k, begun_lies e)

    behind_lie : (p : Preamble) (used : List ℕ) → TablesLie p.tables → AnswerLies (answer_behind line first p used)
    unfolding answer_behind
    behind_lie p used k =
        either AnswerLies (reads (bytes "#BOS") first) (next (go_begun p line.start) (heading_of p.tables (λ n. member n used) line)) (refuse_six line) (begins_lie p used k) (λ e. tt)

    opens_lie : (p : Preamble) → TablesLie p.tables → AnswerLies (next (λ n. go (in_table p n [])) (table_opened p.tables line))
    unfolding table_opened
    opens_lie p k = if_granted AnswerLies bad (λ n. go (in_table p n [])) _ _ (k, tt)

    format_lies : AnswerLies (next (λ n. go (top (record { format = n; tables = no_tables }))) (format_of line))
    unfolding format_of
    format_lies = if_granted AnswerLies bad (λ n. go (top (record { format = n; tables = no_tables }))) _ _ (phase_tables start tt)

    closes_lie : (p : Preamble) (n : ℕ) (rs : List Row) → TablesLie p.tables × Each (RowLies file) rs → AnswerLies (next (λ m. go_closed p n rs) (table_ended n line))
    unfolding table_ended
    closes_lie p n rs k = if_granted AnswerLies bad (λ m. go_closed p n rs) _ _ (closed_lies p.tables n rs k.0 k.1)

    ends_lie : (p : Preamble) (s : Sentence) → TablesLie p.tables × SentenceLies file s → AnswerLies (next (λ n. hand p s) (end_of (so_far s) line))
    unfolding end_of
    ends_lie p s k = if_granted AnswerLies bad (λ n. hand p s) _ _ k

    line_lies : (phase : Phase) (used : List ℕ) → PhaseLies phase → AnswerLies (answer_at phase used line first)
    unfolding answer_at answer_start answer_top answer_rows answer_nodes
    line_lies start used k =
        either AnswerLies (reads (bytes "#FORMAT") first) (next (λ n. go (top (record { format = n; tables = no_tables }))) (format_of line)) (refuse_six line) (λ e. format_lies) (λ e. tt)
    line_lies (top p) used k =
        either AnswerLies (reads (bytes "#BOT") first) (next (λ n. go (in_table p n [])) (table_opened p.tables line)) (answer_behind line first p used) (λ e. opens_lie p k) (λ e. behind_lie p used k)
    line_lies (in_table p n rs) used k =
        let rows = next (go_row p n rs) (row_of n rs line) in
        either AnswerLies (reads (bytes "#EOT") first) (next (λ m. go_closed p n rs) (table_ended n line)) (pick (starts_row first) rows (refuse_six line)) (λ e. closes_lie p n rs k)
        (λ e. either AnswerLies (starts_row first) rows (refuse_six line)
        (λ e. row_lies file line stands AnswerLies bad (go_row p n rs) (λ r l. (k.0, each_more (RowLies file) rs r k.1 l)) n rs) (λ e. tt))
    line_lies (in_sentence p s) used k =
        let words = next (go_word p s) (word_of p.format p.tables (so_far s) line) in
        let phrases = next (go_phrase p s) (phrase_of p.format p.tables (so_far s) line) in
        either AnswerLies (reads (bytes "#EOS") first) (next (λ n. hand p s) (end_of (so_far s) line)) (pick (starts_phrase first) phrases (pick (starts_word first) words (refuse_six line))) (λ e. ends_lie p s k)
        (λ e. either AnswerLies (starts_phrase first) phrases (pick (starts_word first) words (refuse_six line))
        (λ e. phrase_lies file line stands AnswerLies bad (go_phrase p s) (λ n l. (k.0, one_phrase s n k.1 l)) p.format p.tables (so_far s))
        (λ e. either AnswerLies (starts_word first) words (refuse_six line)
        (λ e. word_lies file line stands AnswerLies bad (go_word p s) (λ n l. (k.0, one_word s n k.1 l)) p.format p.tables (so_far s)) (λ e. tt)))
    line_lies (behind_sentence p) used k = behind_lie p used k

  step_lies : (phase : Phase) (used : List ℕ) (line : Text) → Part 0 file line → StartsLine file line.start → PhaseLies phase → AnswerLies (step phase used line)
  step_lies phase used line stands starts k =
      step_cases AnswerLies (λ r h. tt) phase used line k (λ fit. line_lies line stands starts fit phase used k)

  -- ---- all lines

  abbrev pub LiesSoFar : List ℕ → Phase → Type 0
  LiesSoFar done phase = PhaseLies phase × StartsLine file (length done)

  module _ (done l rest : List ℕ) (parts : file ≡ done ++ (l ++ (newline ∷ rest))) where
    newline_at : AfterNewline file (suc (length done + length l))
    newline_at =
        record {
          before = length done + length l;
          place = refl;
          newline =
              ap (λ (f : List ℕ). take 1 (drop (length done + length l) f)) (parts ∙ sym (append_assoc done l (newline ∷ rest)))
              ∙ ap (take 1) (drop_at (done ++ l) (newline ∷ rest) (length done + length l) (length-append done l));
        }

    pub next_line : StartsLine file (length (done ++ (l ++ (newline ∷ []))))
    next_line =
        let e : length (done ++ (l ++ (newline ∷ []))) ≡ suc (length done + length l) = omega (arith, length-append done (l ++ (newline ∷ [])), length-append l (newline ∷ [])) in
        inr (subst (AfterNewline file) (sym e) newline_at)

    answered_lies : (a : Answer) → AnswerLies a → LineAnswered LiesSoFar (HandedLies file) done l a
    answered_lies (refuse q) k = tt
    answered_lies (go phase) k = (k, next_line)
    answered_lies (hand p s) k = ((k.0, next_line), record { sentence = k.1; end = newline_at })

    pub one_lies : (phase : Phase) (used : List ℕ) → LiesSoFar done phase → LineAnswered LiesSoFar (HandedLies file) done l (step phase used (record { start = length done; bytes = l }))
    one_lies phase used k =
        let line : Text = record { start = length done; bytes = l } in
        answered_lies (step phase used line) (step_lies phase used line (record { front = done; back = newline ∷ rest; parts = parts; place = omega arith }) k.1 k.0)

  read_lies : ReadByLines file LiesSoFar (HandedLies file) (λ done l rest phase used parts o k. one_lies done l rest parts phase used k)
  read_lies = by_lines file LiesSoFar (HandedLies file) (λ done l rest phase used parts o k. one_lies done l rest parts phase used k) (tt, inl refl)

-- ---- any file

pub lies_there : (file : List ℕ) → LiesThere file
unfolding survey_of
lies_there file = record { tables = tables (file_fits file); sentences = sentences (file_fits file) }
  where
    tables : (t : Bool) → TablesLie file (pick t (answered (read begin file)) (nothing_read 2)).tables
    tables true = phase_tables file (read begin file).phase (read_lies file).phase.0
    tables false = phase_tables file start tt

    sentences : (t : Bool) → Each (HandedLies file) (pick t (answered (read begin file)) (nothing_read 2)).handed
    sentences true = (read_lies file).handed
    sentences false = tt
