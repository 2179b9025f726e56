-- Where a line is refused, wherever it stands: at the leftmost column that breaks the rule, or at its first byte. By the place
-- where the reading stands and the line's first column.
use Prim.Native.Nat.{ℕ, ◌+◌, ◌≤◌}
use native.Mathlib.Omega.{arith}
use mathlib.Core.Path.{◌≡◌, refl, sym, subst}
use mathlib.Core.Logic.{◌⊎◌, inl, inr}
use mathlib.Core.Bool.{Bool, true, false, false≢true}
use mathlib.Core.List.{List}
use lib.ListN.{length}
use Rattle.rules.specs.Lists.{pick, bytes}
use Rattle.rules.specs.Bytes.{ignored}
use Rattle.rules.specs.Texts.{Text, reads}
use Rattle.rules.specs.Columns.{columns, fields}
use Rattle.rules.specs.Rules.{Rule}
use Rattle.rules.specs.Tables.{Row, word_tags}
use Rattle.rules.specs.Sentences.{Sentence, so_far, end_of}
use Rattle.rules.specs.Nodes.{word_of, phrase_of}
use Rattle.rules.specs.Keywords.{table_opened, table_ended, first_column, starts_row, starts_word, starts_phrase}
use Rattle.rules.specs.Phases.{Preamble, Phase, start, top, in_table, in_sentence, behind_sentence, Answer, refuse, go, hand, next, step}
use Rattle.rules.specs.GrammarNumbers.{format_range, sentence_range}
use Rattle.rules.specs.ColumnsAtFault.{KeywordBreaks, HeadingBreaks, RowBreaks, NodeBreaks, PhraseBreaks, Breaks}
use Rattle.rules.proofs.Takings.{go_row, go_word, go_phrase, refuse_six, answer_start, answer_behind, answer_top, answer_rows, answer_nodes, answer_at, answer_to, line_rules, step_answers}
use Rattle.rules.proofs.SaidOfLists.{true_or_not}
use Rattle.rules.proofs.Steps.{either}
use Rattle.rules.proofs.PointedRules.{points, Places, Placing, placing_plain}
use Rattle.rules.proofs.PointedLines.{format_placing, end_placing, heading_placing}
use Rattle.rules.proofs.PointedRows.{row_placing}
use Rattle.rules.proofs.PointedNodes.{word_placing, phrase_placing}

module _ (line : Text) where
  six : (B : ℕ → Text → Type 0) → Placing B line (refuse_six line)
  six B = record { column = λ p. absurd (false≢true p); first = λ p. refl }

  start_placing : (first : Text) → Placing (KeywordBreaks format_range (columns line)) line (answer_start line first)
  unfolding answer_start
  start_placing first = either (Placing B line) (reads (bytes "#FORMAT") first) _ _ (λ e. format_placing line _ (λ n. tt)) (λ e. six B)
    where
      B : ℕ → Text → Type 0
      B = KeywordBreaks format_range (columns line)

  behind_placing : (first : Text) (p : Preamble) (used : List ℕ) → Placing (HeadingBreaks p.tables (columns line)) line (answer_behind line first p used)
  unfolding answer_behind
  behind_placing first p used = either (Placing B line) (reads (bytes "#BOS") first) _ _ (λ e. heading_placing line _ p.tables _ (λ h. tt)) (λ e. six B)
    where
      B : ℕ → Text → Type 0
      B = HeadingBreaks p.tables (columns line)

  top_placing : (first : Text) (p : Preamble) (used : List ℕ) → Placing (HeadingBreaks p.tables (columns line)) line (answer_top line first p used)
  unfolding answer_top table_opened
  top_placing first p used =
      either (Placing B line) (reads (bytes "#BOT") first) _ _ (λ e. placing_plain B line ⊥ _ _ _ tt ((refl, refl), ((refl, refl), tt))) (λ e. behind_placing first p used)
    where
      B : ℕ → Text → Type 0
      B = HeadingBreaks p.tables (columns line)

  rows_placing : (first : Text) (p : Preamble) (n : ℕ) (rs : List Row) → Placing (RowBreaks n (columns line)) line (answer_rows line first p n rs)
  unfolding answer_rows table_ended
  rows_placing first p n rs =
      either (Placing B line) (reads (bytes "#EOT") first) _ _ (λ e. placing_plain B line ⊥ _ _ _ tt ((refl, refl), ((refl, refl), tt)))
      (λ e. either (Placing B line) (starts_row first) _ _ (λ e. row_placing line (go_row p n rs) rs n (λ B r. tt)) (λ e. six B))
    where
      B : ℕ → Text → Type 0
      B = RowBreaks n (columns line)

  nodes_placing : (p : Preamble) (s : Sentence) → Placing (Breaks (in_sentence p s) line) line (answer_nodes line (first_column line) p s)
  unfolding answer_nodes
  nodes_placing p s = by (reads (bytes "#EOS") (first_column line)) (starts_phrase (first_column line)) (starts_word (first_column line))
    where
      End : ℕ → Text → Type 0
      End = KeywordBreaks sentence_range (columns line)

      OfPhrase : ℕ → Text → Type 0
      OfPhrase = PhraseBreaks p.format p.tables (fields (columns line))

      OfWord : ℕ → Text → Type 0
      OfWord = NodeBreaks p.format p.tables word_tags (length s.words) (fields (columns line))

      by : (t u v : Bool) → Placing (λ n x. pick t (End n x) (pick u (OfPhrase n x) (OfWord n x))) line
          (pick t (next (λ n. hand p s) (end_of (so_far s) line))
          (pick u (next (go_phrase p s) (phrase_of p.format p.tables (so_far s) line)) (pick v (next (go_word p s) (word_of p.format p.tables (so_far s) line)) (refuse_six line))))
      by true u v = end_placing line (λ n. hand p s) (so_far s) (λ n. tt)
      by false true v = phrase_placing line p.format p.tables (so_far s) (go_phrase p s) (λ n. tt)
      by false false true = word_placing line p.format p.tables (so_far s) (go_word p s) (λ n. tt)
      by false false false = six OfWord

  line_placing : (phase : Phase) (used : List ℕ) → Placing (Breaks phase line) line (answer_at phase used line (first_column line))
  unfolding answer_at
  line_placing start used = start_placing (first_column line)
  line_placing (top p) used = top_placing (first_column line) p used
  line_placing (in_table p n rs) used = rows_placing (first_column line) p n rs
  line_placing (in_sentence p s) used = nodes_placing p s
  line_placing (behind_sentence p) used = behind_placing (first_column line) p used

  pub step_placing : (phase : Phase) (used : List ℕ) → Placing (Breaks phase line) line (step phase used line)
  unfolding answer_to
  step_placing phase used =
      subst (Placing (Breaks phase line) line) (sym (step_answers phase used line))
      (placing_plain (Breaks phase line) line ⊥ (answer_to phase used) (line_rules line) line
      (either (Placing (Breaks phase line) line) (ignored line.bytes) _ _ (λ e. tt) (λ e. line_placing phase used)) ((refl, refl), ((refl, refl), tt)))

-- ---- so it is refused inside the line

abbrev pub InsideLine : Text → Answer → Type 0
InsideLine line (refuse q) = (line.start ≤ q.about.start) × (q.about.start ≤ line.start + length line.bytes)
InsideLine line (go phase) = Unit
InsideLine line (hand p s) = Unit

pub step_inside : (phase : Phase) (used : List ℕ) (line : Text) → InsideLine line (step phase used line)
step_inside phase used line = by (step phase used line) (step_placing line phase used)
  where
    which : (q : Rule) → Places (Breaks phase line) line q → (points q ≡ true) ⊎ (points q ≡ false) → InsideLine line (refuse q)
    which q k (inl p) = let c = k.column p in (c.from, omega (arith, c.up_to))
    which q k (inr p) = let e = k.first p in (omega arith, omega arith)

    by : (a : Answer) → Placing (Breaks phase line) line a → InsideLine line a
    by (refuse q) k = which q k (true_or_not (points q))
    by (go x) k = tt
    by (hand p s) k = tt
