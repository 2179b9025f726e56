-- Every sentence handed out, of any file, is what is written between its start and its end. Line by line: which line may
-- stand where, and what it is taken for there.
use Prim.Native.Nat.{ℕ, ◌≤◌}
use native.Mathlib.Omega.{arith}
use mathlib.Core.Path.{◌≡◌, refl, sym, ap}
use mathlib.Core.Bool.{Bool, true, false}
use mathlib.Core.List.{List, [], ◌∷◌, ◌++◌, append-nil}
use lib.ListN.{length}
use Rattle.rules.specs.Lists.{pick, bytes, every, member, Each}
use Rattle.rules.specs.Bytes.{newline, ignored}
use Rattle.rules.specs.Texts.{Text, reads}
use Rattle.rules.specs.Rules.{Rule, Verdict, refused, granted}
use Rattle.rules.specs.Rows.{row_of}
use Rattle.rules.specs.Tables.{Row, no_tables}
use Rattle.rules.specs.Sentences.{Sentence, gapless, parented, heading_written, heading_in, heading_cites, heading_of, end_rules, end_of, so_far}
use Rattle.rules.specs.Keywords.{format_of, table_opened, table_ended, first_column, starts_row, starts_word, starts_phrase}
use Rattle.rules.specs.Nodes.{word_of, phrase_of}
use Rattle.rules.specs.Phases.{Preamble, Phase, start, top, in_table, in_sentence, behind_sentence, begun, Answer, refuse, go, hand, next, step}
use Rattle.rules.specs.Reading.{begin, read}
use Rattle.rules.specs.Survey.{answered, nothing_read, survey_of, file_fits}
use Rattle.rules.specs.Refusals.{OneLine}
use Rattle.rules.specs.GrammarLines.{Ignored, heeded_line, no_line}
use Rattle.rules.specs.AsWritten.{SentenceSaid}
use Rattle.rules.proofs.SaidOfLists.{never_both}
use Rattle.rules.proofs.BytesAsSaid.{ignored_said}
use Rattle.rules.proofs.TestsAsFacts.{reads_are}
use Rattle.rules.proofs.BareColumns.{column_at}
use Rattle.rules.proofs.ReadSoFar.{first_is}
use Rattle.rules.proofs.Conjunctions.{every_front}
use Rattle.rules.proofs.RuleLaws.{holds_of}
use Rattle.rules.proofs.RulesHeld.{held}
use Rattle.rules.proofs.LineFit.{LineFit}
use Rattle.rules.proofs.Takings.{go_begun, go_closed, go_row, go_word, go_phrase, refuse_six, answer_start, answer_behind, answer_top, answer_rows, answer_nodes, answer_at}
use Rattle.rules.proofs.Steps.{either, next_checked}
use Rattle.rules.proofs.NodeLines.{word_cases, phrase_cases}
use Rattle.rules.proofs.ByLines.{LineAnswered, step_taken, ReadByLines, by_lines}
use Rattle.rules.proofs.LinePlaces.{if_granted}
use Rattle.rules.proofs.LinesSaid.{word_said, phrase_said, head_said, end_said}
use Rattle.rules.proofs.SaidSoFar.{SaidSoFar, SaidAt, one_ignored, one_word, one_phrase, one_end}

module _ (file done l rest : List ℕ) (whole : file ≡ done ++ (l ++ (newline ∷ rest))) (plain : OneLine l) where
  abbrev line : Text
  line = record { start = length done; bytes = l }

  abbrev first : Text
  first = first_column (record { start = length done; bytes = l })

  abbrev Goes : Answer → Type 0
  Goes a = LineAnswered SaidAt (SentenceSaid file) done l a

  bad : (r : Rule) → 1 ≤ r.number → Goes (refuse r)
  bad r h = tt

  none_bad : (r : Rule) → Goes (refuse r)
  none_bad r = tt

  stays : (phase : Phase) → SaidAt done phase → ignored l ≡ true → Goes (go phase)
  stays start k e = tt
  stays (top p) k e = tt
  stays (in_table p n rs) k e = tt
  stays (in_sentence p s) k e = one_ignored done l plain s k ((ignored_said l).0 e)
  stays (behind_sentence p) k e = tt

  module _ (fit : LineFit l) where
    seen : Ignored l → ⊥
    seen i = never_both (ignored l) ((ignored_said l).1 i) fit.seen

    keyword : (xs : List ℕ) → 1 ≤ length xs → reads xs first ≡ true → column_at 0 l ≡ xs
    keyword xs h e = (first_is line xs h ((reads_are xs first).0 e)).1

    pub begun_said : reads (bytes "#BOS") (first_column (record { start = length done; bytes = l })) ≡ true → every holds_of (heading_written (record { start = length done; bytes = l })) ≡ true
        → SaidSoFar (done ++ (l ++ (newline ∷ []))) (begun (length done) (heading_in (record { start = length done; bytes = l })))
    begun_said e h =
        record {
          front = done;
          lines = l ∷ [];
          parts = ap (λ (x : List ℕ). done ++ x) (sym (append-nil (l ++ (newline ∷ []))));
          each_line = (plain, tt);
          start = refl;
          head = l;
          words = [];
          phrases = [];
          heeded = heeded_line seen no_line;
          its_head = head_said line (keyword (bytes "#BOS") (omega arith) e) (held (heading_written line) h);
          its_words = tt;
          counted = refl;
          its_phrases = tt;
        }

    begins : (p : Preamble) (used : List ℕ) → reads (bytes "#BOS") first ≡ true → Goes (next (go_begun p (length done)) (heading_of p.tables (λ n. member n used) line))
    unfolding heading_of
    begins p used e =
        next_checked Goes bad (go_begun p (length done)) (heading_written line ++ heading_cites p.tables (λ n. member n used) line) (heading_in line) refl
        (λ h. begun_said e (every_front holds_of (heading_written line) (heading_cites p.tables (λ n. member n used) line) h))

    behind : (p : Preamble) (used : List ℕ) → Goes (answer_behind line first p used)
    unfolding answer_behind
    behind p used =
        either Goes (reads (bytes "#BOS") first) (next (go_begun p (length done)) (heading_of p.tables (λ n. member n used) line)) (refuse_six line) (begins p used) (λ e. tt)

    ends : (p : Preamble) (s : Sentence) → SaidSoFar done s → reads (bytes "#EOS") first ≡ true → Goes (next (λ n. hand p s) (end_of (so_far s) line))
    unfolding end_of end_rules
    ends p s k e =
        let rules = end_rules s.heading.number (gapless s.phrases) (every (parented s.phrases) (s.words ++ s.phrases)) line in
        next_checked Goes bad (λ n. hand p s) rules s.heading.number refl
        (λ h. (tt, one_end done l plain s k file rest whole seen (end_said s line (keyword (bytes "#EOS") (omega arith) e) (held rules h))))

    words_go : (p : Preamble) (s : Sentence) → SaidSoFar done s → Goes (next (go_word p s) (word_of p.format p.tables (so_far s) line))
    words_go p s k =
        word_cases p.format p.tables (so_far s) line Goes bad (go_word p s)
        (λ h. one_word done l plain s k _ seen h.first refl (word_said line p.format p.tables (so_far s) h))

    phrases_go : (p : Preamble) (s : Sentence) → SaidSoFar done s → starts_phrase first ≡ true → Goes (next (go_phrase p s) (phrase_of p.format p.tables (so_far s) line))
    phrases_go p s k e =
        phrase_cases p.format p.tables (so_far s) line Goes bad (go_phrase p s)
        (λ n h. one_phrase done l plain s k _ seen (phrase_said line p.format p.tables (so_far s) n fit e h))

    opens : (p : Preamble) → Goes (next (λ n. go (in_table p n [])) (table_opened p.tables line))
    unfolding table_opened
    opens p = if_granted Goes none_bad (λ n. go (in_table p n [])) _ _ tt

    rows_go : (p : Preamble) (n : ℕ) (rs : List Row) → Goes (next (go_row p n rs) (row_of n rs line))
    rows_go p n rs = by (row_of n rs line)
      where
        by : (v : Verdict Row) → Goes (next (go_row p n rs) v)
        by (refused r) = tt
        by (granted r) = tt

    line_goes : (phase : Phase) (used : List ℕ) → SaidAt done phase → Goes (answer_at phase used line first)
    unfolding answer_at answer_start format_of answer_top answer_rows table_ended answer_nodes
    line_goes start used k =
        either Goes (reads (bytes "#FORMAT") first) _ (refuse_six line) (λ e. if_granted Goes none_bad (λ n. go (top (record { format = n; tables = no_tables }))) _ _ tt) (λ e. tt)
    line_goes (top p) used k = either Goes (reads (bytes "#BOT") first) _ (answer_behind line first p used) (λ e. opens p) (λ e. behind p used)
    line_goes (in_table p n rs) used k =
        either Goes (reads (bytes "#EOT") first) _ (pick (starts_row first) (next (go_row p n rs) (row_of n rs line)) (refuse_six line))
        (λ e. if_granted Goes none_bad (λ m. go_closed p n rs) _ _ tt)
        (λ e. either Goes (starts_row first) (next (go_row p n rs) (row_of n rs line)) (refuse_six line) (λ z. rows_go p n rs) (λ z. tt))
    line_goes (in_sentence p s) used k =
        let words = next (go_word p s) (word_of p.format p.tables (so_far s) line) in
        let phrases = next (go_phrase p s) (phrase_of p.format p.tables (so_far s) line) in
        either Goes (reads (bytes "#EOS") first) (next (λ n. hand p s) (end_of (so_far s) line)) (pick (starts_phrase first) phrases (pick (starts_word first) words (refuse_six line))) (ends p s k)
        (λ e. either Goes (starts_phrase first) phrases (pick (starts_word first) words (refuse_six line)) (phrases_go p s k)
        (λ z. either Goes (starts_word first) words (refuse_six line) (λ y. words_go p s k) (λ y. tt)))
    line_goes (behind_sentence p) used k = behind p used

  -- one line: it is ignored, or taken
  pub one_said : (phase : Phase) (used : List ℕ) → SaidAt done phase → Goes (step phase used (record { start = length done; bytes = l }))
  one_said phase used k = step_taken Goes none_bad phase used line (stays phase k) (λ fit. line_goes fit phase used k)

-- ---- any file

module _ (file : List ℕ) where
  all_lines : ReadByLines file SaidAt (SentenceSaid file) (λ done l rest phase used whole o k. one_said file done l rest whole o phase used k)
  all_lines = by_lines file SaidAt (SentenceSaid file) (λ done l rest phase used whole o k. one_said file done l rest whole o phase used k) tt

  pub sentences_written : Each (SentenceSaid file) (survey_of file).handed
  unfolding survey_of
  sentences_written = by (file_fits file)
    where
      by : (t : Bool) → Each (SentenceSaid file) (pick t (answered (read begin file)) (nothing_read 2)).handed
      by true = all_lines.handed
      by false = tt
