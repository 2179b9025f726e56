-- Every closed table, of any file, is what is written between its #BOT and its #EOT; with the sentences, all that is handed
-- out is as written. Line by line: which line may stand where, and what it is taken for there.
use Prim.Native.Nat.{ℕ, zero, suc, ◌+◌, ◌≤◌}
use native.Mathlib.Nat.{add-zero, add-suc, suc-add, zero-add}
use native.Mathlib.Omega.{arith}
use mathlib.Core.Path.{◌≡◌, refl, sym, ap, ◌∙◌, subst}
use mathlib.Core.Bool.{Bool, true, false}
use Rattle.std.specs.Prelude.{None, Some}
use mathlib.Core.List.{List, [], ◌∷◌, ◌++◌, append-nil, append_assoc}
use lib.ListN.{length, set}
use Rattle.rules.specs.Lists.{pick, bytes, member, Each}
use Rattle.rules.specs.Bytes.{newline, ignored}
use Rattle.rules.specs.Texts.{Text, reads}
use Rattle.rules.specs.Rules.{Rule, Verdict, refused, granted}
use Rattle.rules.specs.Rows.{row_of}
use Rattle.rules.specs.Tables.{Tables, Row, no_tables}
use Rattle.rules.specs.Sentences.{Sentence, heading_of, end_of, so_far}
use Rattle.rules.specs.Keywords.{format_of, table_opened, table_ended, first_column, starts_row, starts_word, starts_phrase}
use Rattle.rules.specs.Nodes.{word_of, phrase_of}
use Rattle.rules.specs.Phases.{Preamble, Phase, start, top, in_table, in_sentence, behind_sentence, Answer, refuse, go, hand, next, step, table_at, tables_at}
use Rattle.rules.specs.Reading.{Handed, begin, read}
use Rattle.rules.specs.Survey.{answered, nothing_read, survey_of, file_fits}
use Rattle.rules.specs.Refusals.{OneLine}
use Rattle.rules.specs.GrammarLines.{Ignored, lines_written, Heeded, heeded_line, no_line}
use Rattle.rules.specs.GrammarTables.{Names}
use Rattle.rules.specs.AsWritten.{TableRowSaid, EachWith, TableSaid, TablesSaid, AsWritten}
use Rattle.rules.proofs.EachElement.{each_more}
use Rattle.rules.proofs.SaidOfLists.{never_both}
use Rattle.rules.proofs.BytesAsSaid.{ignored_said}
use Rattle.rules.proofs.TestsAsFacts.{reads_are}
use Rattle.rules.proofs.BareColumns.{column_at}
use Rattle.rules.proofs.LineByLine.{Through}
use Rattle.rules.proofs.KeywordsAsSaid.{opened_granted, ended_granted}
use Rattle.rules.proofs.ReadSoFar.{first_is}
use Rattle.rules.proofs.LineFit.{LineFit}
use Rattle.rules.proofs.Takings.{go_begun, go_closed, go_row, go_word, go_phrase, refuse_six, answer_start, answer_behind, answer_top, answer_rows, answer_nodes, answer_at}
use Rattle.rules.proofs.Steps.{either}
use Rattle.rules.proofs.ByLines.{LineAnswered, step_taken, ReadByLines, by_lines}
use Rattle.rules.proofs.RowsSaid.{row_said}
use Rattle.rules.proofs.SaidSoFar.{lines_more, heeded_more, ignored_more, with_more}
use Rattle.rules.proofs.AsWritten.{sentences_written}

-- ---- a table that is being read, behind these bytes

record TableSoFar (done : List ℕ) (n : ℕ) (rs : List Row) : Type 0 where
  pub front : List ℕ
  pub lines : List (List ℕ)
  pub parts : done ≡ front ++ lines_written lines
  pub each_line : Each OneLine lines
  pub bot : List ℕ
  pub rows : List (List ℕ)
  pub heeded : Heeded lines (bot ∷ rows)
  pub its_bot : Names (bytes "#BOT") n bot
  pub its_rows : EachWith (TableRowSaid n) rs rows

abbrev Stands : List ℕ → List ℕ → Phase → Type 0
Stands file done start = Unit {0}
Stands file done (top p) = TablesSaid file 0 p.tables
Stands file done (in_table p n rs) = TablesSaid file 0 p.tables × TableSoFar done n rs
Stands file done (in_sentence p s) = TablesSaid file 0 p.tables
Stands file done (behind_sentence p) = TablesSaid file 0 p.tables

no_tables_said : (file : List ℕ) → TablesSaid file 0 no_tables
no_tables_said file = tt

closed_said : (file : List ℕ) (k n : ℕ) (ts : Tables) (rs : List Row) → TablesSaid file k ts → TableSaid file (k + n) rs → TablesSaid file k (set ts n (Some rs))
closed_said file k n [] rs t r = tt
closed_said file k zero (None ∷ ts) rs t r = (subst (λ (i : ℕ). TableSaid file i rs) (add-zero k) r, t)
closed_said file k zero (Some us ∷ ts) rs t r = (subst (λ (i : ℕ). TableSaid file i rs) (add-zero k) r, t.1)
closed_said file k (suc n) (None ∷ ts) rs t r = closed_said file (suc k) n ts rs t (subst (λ (i : ℕ). TableSaid file i rs) (add-suc k n ∙ sym (suc-add k n)) r)
closed_said file k (suc n) (Some us ∷ ts) rs t r = (t.0, closed_said file (suc k) n ts rs t.1 (subst (λ (i : ℕ). TableSaid file i rs) (add-suc k n ∙ sym (suc-add k n)) r))

module _ (done l : List ℕ) (plain : OneLine l) (n : ℕ) (rs : List Row) (k : TableSoFar done n rs) where
  each_line_more : Each OneLine (k.lines ++ (l ∷ []))
  each_line_more = each_more OneLine k.lines l k.each_line plain

  parts_more : done ++ (l ++ (newline ∷ [])) ≡ k.front ++ lines_written (k.lines ++ (l ∷ []))
  parts_more =
      ap (λ (x : List ℕ). x ++ (l ++ (newline ∷ []))) k.parts ∙ append_assoc k.front (lines_written k.lines) (l ++ (newline ∷ []))
      ∙ ap (λ (x : List ℕ). k.front ++ x) (sym (lines_more k.lines l))

  one_ignored : Ignored l → TableSoFar (done ++ (l ++ (newline ∷ []))) n rs
  one_ignored i =
      record {
        front = k.front;
        lines = k.lines ++ (l ∷ []);
        parts = parts_more;
        each_line = each_line_more;
        bot = k.bot;
        rows = k.rows;
        heeded = ignored_more l k.heeded i;
        its_bot = k.its_bot;
        its_rows = k.its_rows;
      }

  one_row : (r : Row) → (Ignored l → ⊥) → TableRowSaid n r l → TableSoFar (done ++ (l ++ (newline ∷ []))) n (rs ++ (r ∷ []))
  one_row r seen w =
      record {
        front = k.front;
        lines = k.lines ++ (l ∷ []);
        parts = parts_more;
        each_line = each_line_more;
        bot = k.bot;
        rows = k.rows ++ (l ∷ []);
        heeded = heeded_more l k.heeded seen;
        its_bot = k.its_bot;
        its_rows = with_more (TableRowSaid n) rs k.rows r l k.its_rows w;
      }

  one_end : (file rest : List ℕ) → file ≡ done ++ (l ++ (newline ∷ rest)) → (Ignored l → ⊥) → Names (bytes "#EOT") n l → TableSaid file n rs
  one_end file rest whole seen e =
      record {
        front = k.front;
        lines = k.lines ++ (l ∷ []);
        back = rest;
        each_line = each_line_more;
        parts =
            whole
            ∙ (let e : done ++ (l ++ (newline ∷ rest)) ≡ (done ++ (l ++ (newline ∷ []))) ++ rest = simp append_assoc in e)
            ∙ ap (λ (x : List ℕ). x ++ rest) parts_more ∙ append_assoc k.front (lines_written (k.lines ++ (l ∷ []))) rest;
        bot = k.bot;
        rows = k.rows;
        eot = l;
        heeded = heeded_more l k.heeded seen;
        its_bot = k.its_bot;
        its_rows = k.its_rows;
        its_eot = e;
      }

-- ---- one line

module _ (file done l rest : List ℕ) (whole : file ≡ done ++ (l ++ (newline ∷ rest))) (plain : OneLine l) where
  abbrev line : Text
  line = record { start = length done; bytes = l }

  abbrev first : Text
  first = first_column (record { start = length done; bytes = l })

  abbrev Goes : Answer → Type 0
  Goes a = LineAnswered (Stands file) (λ (h : Handed). Unit {0}) done l a

  none_bad : (r : Rule) → Goes (refuse r)
  none_bad r = tt

  any_verdict : {A : Type 0} (f : A → Answer) → ((a : A) → Goes (f a)) → (v : Verdict A) → Goes (next f v)
  any_verdict f g (refused r) = tt
  any_verdict f g (granted a) = g a

  stays : (phase : Phase) → Stands file done phase → ignored l ≡ true → Goes (go phase)
  stays start k e = tt
  stays (top p) k e = k
  stays (in_table p n rs) k e = (k.0, one_ignored done l plain n rs k.1 ((ignored_said l).0 e))
  stays (in_sentence p s) k e = k
  stays (behind_sentence p) k e = k

  module _ (fit : LineFit l) (used : List ℕ) where
    seen : Ignored l → ⊥
    seen i = never_both (ignored l) ((ignored_said l).1 i) fit.seen

    keyword : (xs : List ℕ) → 1 ≤ length xs → reads xs first ≡ true → column_at 0 l ≡ xs
    keyword xs h e = (first_is line xs h ((reads_are xs first).0 e)).1

    behind : (p : Preamble) → TablesSaid file 0 p.tables → Goes (answer_behind line first p used)
    unfolding answer_behind
    behind p k = either Goes (reads (bytes "#BOS") first) _ (refuse_six line) (λ e. any_verdict (go_begun p (length done)) (λ h. k) (heading_of p.tables (λ n. member n used) line)) (λ e. tt)

    opens : (p : Preamble) → TablesSaid file 0 p.tables → reads (bytes "#BOT") first ≡ true → Goes (next (λ n. go (in_table p n [])) (table_opened p.tables line))
    opens p k e = by (table_opened p.tables line) refl
      where
        by : (v : Verdict ℕ) → table_opened p.tables line ≡ v → Goes (next (λ n. go (in_table p n [])) v)
        by (refused r) q = tt
        by (granted n) q =
            let K : Phase → List Sentence → Type 0 = λ (phase : Phase) (out : List Sentence). phase ≡ in_table p n [] in
            let o = opened_granted K [] line (λ m. go (in_table p m [])) p.tables (keyword (bytes "#BOT") (omega arith) e)
            (subst (λ (v : Verdict ℕ). Through K [] (next (λ m. go (in_table p m [])) v)) (sym q) refl) in
            let same_table : o.which ≡ n = ap table_at o.goes_on in (
              k,
              record {
                front = done;
                lines = l ∷ [];
                parts = ap (λ (x : List ℕ). done ++ x) (sym (append-nil (l ++ (newline ∷ []))));
                each_line = (plain, tt);
                bot = l;
                rows = [];
                heeded = heeded_line seen no_line;
                its_bot = subst (λ (m : ℕ). Names (bytes "#BOT") m l) same_table o.names;
                its_rows = tt;
              },
            )

    closes : (p : Preamble) (n : ℕ) (rs : List Row) → TablesSaid file 0 p.tables → TableSoFar done n rs → reads (bytes "#EOT") first ≡ true → Goes (next (λ m. go_closed p n rs) (table_ended n line))
    closes p n rs t k e = by (table_ended n line) refl
      where
        by : (v : Verdict ℕ) → table_ended n line ≡ v → Goes (next (λ m. go_closed p n rs) v)
        by (refused r) q = tt
        by (granted m) q =
            let K : Phase → List Sentence → Type 0 = λ (phase : Phase) (out : List Sentence). Unit {0} in
            let o = ended_granted K [] line (λ i. go_closed p n rs) n (keyword (bytes "#EOT") (omega arith) e)
            (subst (λ (v : Verdict ℕ). Through K [] (next (λ i. go_closed p n rs) v)) (sym q) tt) in
            closed_said file 0 n p.tables rs t (subst (λ (i : ℕ). TableSaid file i rs) (sym (zero-add n)) (one_end done l plain n rs k file rest whole seen o.0))

    line_goes : (phase : Phase) → Stands file done phase → Goes (answer_at phase used line first)
    unfolding answer_at answer_start answer_top answer_rows answer_nodes
    line_goes start k =
        either Goes (reads (bytes "#FORMAT") first) _ (refuse_six line) (λ e. any_verdict (λ n. go (top (record { format = n; tables = no_tables }))) (λ n. no_tables_said file) (format_of line)) (λ e. tt)
    line_goes (top p) k = either Goes (reads (bytes "#BOT") first) _ (answer_behind line first p used) (opens p k) (λ e. behind p k)
    line_goes (in_table p n rs) k =
        either Goes (reads (bytes "#EOT") first) _ (pick (starts_row first) (next (go_row p n rs) (row_of n rs line)) (refuse_six line)) (closes p n rs k.0 k.1)
        (λ e. either Goes (starts_row first) (next (go_row p n rs) (row_of n rs line)) (refuse_six line)
        (λ z. row_said line Goes none_bad (go_row p n rs) n rs (λ r w. (k.0, one_row done l plain n rs k.1 r seen w))) (λ z. tt))
    line_goes (in_sentence p s) k =
        let words = next (go_word p s) (word_of p.format p.tables (so_far s) line) in
        let phrases = next (go_phrase p s) (phrase_of p.format p.tables (so_far s) line) in
        either Goes (reads (bytes "#EOS") first) (next (λ n. hand p s) (end_of (so_far s) line)) (pick (starts_phrase first) phrases (pick (starts_word first) words (refuse_six line)))
        (λ e. any_verdict (λ n. hand p s) (λ n. (k, tt)) (end_of (so_far s) line))
        (λ e. either Goes (starts_phrase first) phrases (pick (starts_word first) words (refuse_six line)) (λ z. any_verdict (go_phrase p s) (λ n. k) (phrase_of p.format p.tables (so_far s) line))
        (λ z. either Goes (starts_word first) words (refuse_six line) (λ y. any_verdict (go_word p s) (λ n. k) (word_of p.format p.tables (so_far s) line)) (λ y. tt)))
    line_goes (behind_sentence p) k = behind p k

  one_line : (phase : Phase) (used : List ℕ) → Stands file done phase → Goes (step phase used (record { start = length done; bytes = l }))
  one_line phase used k = step_taken Goes none_bad phase used line (stays phase k) (λ fit. line_goes fit used phase k)

-- ---- any file

module _ (file : List ℕ) where
  all_lines : ReadByLines file (Stands file) (λ (h : Handed). Unit {0}) (λ done l rest phase used whole o k. one_line file done l rest whole o phase used k)
  all_lines = by_lines file (Stands file) (λ (h : Handed). Unit {0}) (λ done l rest phase used whole o k. one_line file done l rest whole o phase used k) tt

  phase_tables : (done : List ℕ) (phase : Phase) → Stands file done phase → TablesSaid file 0 (tables_at phase)
  phase_tables done start k = no_tables_said file
  phase_tables done (top p) k = k
  phase_tables done (in_table p n rs) k = k.0
  phase_tables done (in_sentence p s) k = k
  phase_tables done (behind_sentence p) k = k

  tables_written : TablesSaid file 0 (survey_of file).tables
  unfolding survey_of
  tables_written = by (file_fits file)
    where
      by : (t : Bool) → TablesSaid file 0 (pick t (answered (read begin file)) (nothing_read 2)).tables
      by true = phase_tables all_lines.done (read begin file).phase all_lines.phase
      by false = no_tables_said file

  pub told_as_written : AsWritten file
  told_as_written = record { tables = tables_written; sentences = sentences_written file }
