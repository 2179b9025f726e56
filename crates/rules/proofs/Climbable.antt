-- What every sentence handed out has for its chains of parents to climb: phrases numbered from 500 without a gap, each parent 0
-- or a phrase of a larger number; and each secondary parent another node. Line by line: a node's own rules, and those of the
-- sentence's end.
use Prim.Native.Nat.{ℕ, ◌≤◌, ◌<◌}
use native.Mathlib.Omega.{arith}
use mathlib.Core.Path.{◌≡◌, refl, sym, ◌∙◌}
use mathlib.Core.Logic.{◌⊎◌, inl, inr}
use mathlib.Core.Bool.{Bool, true, false, not}
use mathlib.Core.List.{List, [], ◌++◌, map}
use lib.ListN.{length}
use lib.Dec.{ltb, eqb}
use borrow.Author.Tests.{eqb-true, ltb-true}
use Rattle.rules.specs.Lists.{pick, bytes, every, member, Each}
use Rattle.rules.specs.Texts.{Text, reads}
use Rattle.rules.specs.Columns.{columns, fields}
use Rattle.rules.specs.Numbers.{phrase_number, value}
use Rattle.rules.specs.Rules.{Rule, rule}
use Rattle.rules.specs.Tables.{Tables, no_tables}
use Rattle.rules.specs.Rows.{row_of}
use Rattle.rules.specs.Sentences.{Edge, Node, Sentence, gapless, parented, heading_of, end_rules, end_of, so_far}
use Rattle.rules.specs.Pairs.{Pair, as_edge, is_another}
use Rattle.rules.specs.Nodes.{its_parent, its_pairs, parents_allowed, word_of, phrase_of}
use Rattle.rules.specs.Keywords.{format_of, table_opened, table_ended, first_column, starts_row, starts_word, starts_phrase}
use Rattle.rules.specs.Phases.{Preamble, Phase, start, top, in_table, in_sentence, behind_sentence, Answer, refuse, go, hand, next, step}
use Rattle.rules.specs.Reading.{Handed, begin, read}
use Rattle.rules.specs.Sheets.{nodes}
use Rattle.rules.specs.Survey.{answered, nothing_read, survey_of, file_fits}
use Rattle.rules.specs.Meaning.{node_number}
use Rattle.rules.proofs.EachElement.{each_then, each_joined, each_more}
use Rattle.rules.proofs.Conjunctions.{every_map}
use Rattle.rules.proofs.RuleLaws.{holds_of}
use Rattle.rules.proofs.RulesHeld.{held, hold}
use Rattle.rules.proofs.Sorting.{Distinct, distinct_last}
use Rattle.rules.proofs.NumbersAgain.{number_range}
use Rattle.rules.proofs.PlacelessNodes.{NodeHolds}
use Rattle.rules.proofs.NodeLines.{word_cases, phrase_cases}
use Rattle.rules.proofs.NodeNumbers.{PhraseNumbered, InRoom}
use Rattle.rules.proofs.Takings.{go_begun, go_closed, go_row, go_word, go_phrase, answer_start, answer_behind, answer_top, answer_rows, answer_nodes, answer_at}
use Rattle.rules.proofs.Steps.{next_any, either, next_checked, step_cases}
use Rattle.rules.proofs.ByLines.{LineAnswered, ReadByLines, by_lines}

-- its parent is 0 or larger
abbrev pub Rises : Node → Type 0
Rises n = (n.parent ≡ 0) ⊎ (n.number < n.parent)

-- and each secondary parent is another node
abbrev pub OthersDiffer : Node → Type 0
OthersDiffer n = every (λ (e : Edge). not (eqb n.number e.parent)) n.secondary ≡ true

pub record Climbable (s : Sentence) : Type 0 where
  pub numbered : Each PhraseNumbered s.phrases
  pub apart : Distinct node_number s.phrases
  pub in_room : Each InRoom (nodes s)
  pub rises : Each Rises (nodes s)
  pub others : Each OthersDiffer (nodes s)
  pub whole : gapless s.phrases ≡ true
  pub parents : every (parented s.phrases) (nodes s) ≡ true

-- ---- a sentence that is being read

abbrev pub WordRises : Node → Type 0
WordRises n = InRoom n × Rises n × OthersDiffer n

abbrev pub PhraseRises : Node → Type 0
PhraseRises n = PhraseNumbered n × Rises n × OthersDiffer n

pub record Rising (s : Sentence) : Type 0 where
  pub words : Each WordRises s.words
  pub phrases : Each PhraseRises s.phrases
  pub apart : Distinct node_number s.phrases

abbrev pub PhaseRises : Phase → Type 0
PhaseRises start = Unit {0}
PhaseRises (top p) = Unit {0}
PhaseRises (in_table p n rs) = Unit {0}
PhaseRises (in_sentence p s) = Rising s
PhaseRises (behind_sentence p) = Unit {0}

abbrev AnswerRises : Answer → Type 0
AnswerRises (refuse r) = Unit {0}
AnswerRises (go phase) = PhaseRises phase
AnswerRises (hand p s) = Climbable s

bad : (r : Rule) → 1 ≤ r.number → AnswerRises (refuse r)
bad r h = tt

larger_parent : (n parent : ℕ) (b : Bool) → pick (eqb parent 0) b (ltb n parent) ≡ true → (parent ≡ 0) ⊎ (n < parent)
larger_parent n parent b e = by (eqb parent 0) refl e
  where
    by : (t : Bool) → eqb parent 0 ≡ t → pick t b (ltb n parent) ≡ true → (parent ≡ 0) ⊎ (n < parent)
    by true q e = inl (eqb-true parent 0 q)
    by false q e = inr (ltb-true n parent e)

-- parent 0 needs the edge --, another parent is larger than the node's number
node_rises : (format : ℕ) (fs : List Text) (ts : Tables) (tags k : ℕ) → NodeHolds format fs ts tags k → (value (its_parent format fs) ≡ 0) ⊎ (k < value (its_parent format fs))
unfolding parents_allowed
node_rises format fs ts tags k h = larger_parent k _ _ (held (parents_allowed format fs k) h.allowed).0

others_differ : (format : ℕ) (fs : List Text) (ts : Tables) (tags k : ℕ) → NodeHolds format fs ts tags k
    → every (λ (e : Edge). not (eqb k e.parent)) (map as_edge (its_pairs format fs)) ≡ true
unfolding parents_allowed
others_differ format fs ts tags k h =
    let another : Pair → Rule = λ (p : Pair). rule 19 p.parent (is_another k p) in
    every_map (λ (e : Edge). not (eqb k e.parent)) as_edge (its_pairs format fs) ∙ sym (every_map holds_of another (its_pairs format fs))
    ∙ hold (map another (its_pairs format fs)) (held (parents_allowed format fs k) h.allowed).1

module _ (line : Text) (p : Preamble) (s : Sentence) (k : Rising s) where
  abbrev fs : List Text
  fs = fields (columns line)

  words_rise : AnswerRises (next (go_word p s) (word_of p.format p.tables (so_far s) line))
  words_rise =
      word_cases p.format p.tables (so_far s) line AnswerRises bad (go_word p s)
      (λ h.
      record {
        words = each_more WordRises s.words _ k.words (omega (arith, h.few), node_rises p.format fs p.tables _ (length s.words) h.own, others_differ p.format fs p.tables _ (length s.words) h.own);
        phrases = k.phrases;
        apart = k.apart;
      })

  phrases_rise : AnswerRises (next (go_phrase p s) (phrase_of p.format p.tables (so_far s) line))
  phrases_rise =
      phrase_cases p.format p.tables (so_far s) line AnswerRises bad (go_phrase p s)
      (λ i h.
      record {
        words = k.words;
        phrases = each_more PhraseRises s.phrases _ k.phrases (number_range phrase_number _ i h.number, node_rises p.format fs p.tables _ i h.own, others_differ p.format fs p.tables _ i h.own);
        apart = distinct_last node_number s.phrases _ k.apart h.new;
      })

  end_rises : AnswerRises (next (λ n. hand p s) (end_of (so_far s) line))
  unfolding end_of end_rules
  end_rises =
      let rules = end_rules s.heading.number (gapless s.phrases) (every (parented s.phrases) (s.words ++ s.phrases)) line in
      next_checked AnswerRises bad (λ n. hand p s) rules s.heading.number refl
      (λ h.
      let r = held rules h in
      let numbered = each_then PhraseRises PhraseNumbered (λ n a. a.0) s.phrases k.phrases in
      record {
        numbered = numbered;
        apart = k.apart;
        in_room =
            each_joined InRoom s.words s.phrases (each_then WordRises InRoom (λ n a. a.0) s.words k.words)
            (each_then PhraseNumbered InRoom (λ n a. omega (arith, a.1)) s.phrases numbered);
        rises = each_joined Rises s.words s.phrases (each_then WordRises Rises (λ n a. a.1) s.words k.words) (each_then PhraseRises Rises (λ n a. a.1) s.phrases k.phrases);
        others =
            each_joined OthersDiffer s.words s.phrases (each_then WordRises OthersDiffer (λ n a. a.2) s.words k.words)
            (each_then PhraseRises OthersDiffer (λ n a. a.2) s.phrases k.phrases);
        whole = r.1.1.1.0;
        parents = r.1.1.1.1.0;
      })

  nodes_rise : (first : Text) → AnswerRises (answer_nodes line first p s)
  unfolding answer_nodes
  nodes_rise first =
      either AnswerRises (reads (bytes "#EOS") first) _ _ (λ e. end_rises)
      (λ e. either AnswerRises (starts_phrase first) _ _ (λ e. phrases_rise)
      (λ e. either AnswerRises (starts_word first) _ _ (λ e. words_rise) (λ e. tt)))

-- ---- any line

behind_rises : (line first : Text) (p : Preamble) (used : List ℕ) → AnswerRises (answer_behind line first p used)
unfolding answer_behind
behind_rises line first p used =
    either AnswerRises (reads (bytes "#BOS") first) _ _
    (λ e. next_any AnswerRises (λ r. tt) (go_begun p line.start) (λ h. record { words = tt; phrases = tt; apart = tt }) (heading_of p.tables (λ n. member n used) line)) (λ e. tt)

line_rises : (line first : Text) (phase : Phase) (used : List ℕ) → PhaseRises phase → AnswerRises (answer_at phase used line first)
unfolding answer_at answer_start answer_top answer_rows
line_rises line first start used k =
    either AnswerRises (reads (bytes "#FORMAT") first) _ _ (λ e. next_any AnswerRises (λ r. tt) (λ n. go (top (record { format = n; tables = no_tables }))) (λ n. tt) (format_of line)) (λ e. tt)
line_rises line first (top p) used k =
    either AnswerRises (reads (bytes "#BOT") first) _ _ (λ e. next_any AnswerRises (λ r. tt) (λ n. go (in_table p n [])) (λ n. tt) (table_opened p.tables line)) (λ e. behind_rises line first p used)
line_rises line first (in_table p n rs) used k =
    either AnswerRises (reads (bytes "#EOT") first) _ _ (λ e. next_any AnswerRises (λ r. tt) (λ m. go_closed p n rs) (λ m. tt) (table_ended n line))
    (λ e. either AnswerRises (starts_row first) _ _ (λ e. next_any AnswerRises (λ r. tt) (go_row p n rs) (λ r. tt) (row_of n rs line)) (λ e. tt))
line_rises line first (in_sentence p s) used k = nodes_rise line p s k first
line_rises line first (behind_sentence p) used k = behind_rises line first p used

answered_rises : (done l : List ℕ) (a : Answer) → AnswerRises a → LineAnswered (λ bs. PhaseRises) (λ (h : Handed). Climbable h.sentence) done l a
answered_rises done l (refuse r) k = tt
answered_rises done l (go phase) k = k
answered_rises done l (hand p s) k = (tt, k)

pub one_rises : (done l : List ℕ) (phase : Phase) (used : List ℕ) → PhaseRises phase
    → LineAnswered (λ bs. PhaseRises) (λ (h : Handed). Climbable h.sentence) done l (step phase used (record { start = length done; bytes = l }))
one_rises done l phase used k =
    let line : Text = record { start = length done; bytes = l } in
    answered_rises done l (step phase used line) (step_cases AnswerRises bad phase used line k (λ fit. line_rises line (first_column line) phase used k))

-- ---- any file

module _ (file : List ℕ) where
  all_lines : ReadByLines file (λ bs. PhaseRises) (λ (h : Handed). Climbable h.sentence) (λ done l rest phase used parts o k. one_rises done l phase used k)
  all_lines = by_lines file (λ bs. PhaseRises) (λ (h : Handed). Climbable h.sentence) (λ done l rest phase used parts o k. one_rises done l phase used k) tt

  pub handed_climbable : Each (λ (h : Handed). Climbable h.sentence) (survey_of file).handed
  unfolding survey_of
  handed_climbable = by (file_fits file)
    where
      by : (t : Bool) → Each (λ (h : Handed). Climbable h.sentence) (pick t (answered (read begin file)) (nothing_read 2)).handed
      by true = all_lines.handed
      by false = tt
