-- A line is never refused with the number 0, which says that a file is accepted. Rule by rule: each list of rules has
-- numbers from 1 on.
use Prim.Native.Nat.{ℕ, ◌≤◌}
use native.Mathlib.Omega.{arith}
use mathlib.Core.Path.{◌≡◌, refl}
use mathlib.Core.Bool.{Bool, true, false, not, ◌&&◌}
use mathlib.Core.List.{List, [], ◌∷◌, ◌++◌, map}
use lib.Dec.{leb, ltb, eqb}
use Rattle.rules.specs.Lists.{pick, bytes}
use Rattle.rules.specs.Texts.{Text, reads, at_most, behind_hash}
use Rattle.rules.specs.Columns.{columns, text, fields}
use Rattle.rules.specs.Numbers.{word_limit, phrase_number, number, good, value}
use Rattle.rules.specs.Rules.{Rule, rule, checked}
use Rattle.rules.specs.Tables.{Tables, Row, origins, editors, word_tags, node_tags, sec_edge_tags, known, tag_limit}
use Rattle.rules.specs.Rows.{origin_row, editor_row, tag_row, row_of}
use Rattle.rules.specs.Sentences.{Node, Sentence, heading_of, end_rules, end_of, SoFar, so_far}
use Rattle.rules.specs.Pairs.{Pair, secondary_parent, is_another}
use Rattle.rules.specs.Nodes.{its_pairs, roomy, word_of, phrase_of, parents_written, tags_short, tags_known, parents_allowed}
use Rattle.rules.specs.Keywords.{format_of, table_opened, table_ended, first_column, starts_row, starts_word, starts_phrase}
use Rattle.rules.specs.Phases.{Preamble, Phase, start, top, in_table, in_sentence, behind_sentence, Answer, refuse, go, hand, next, step}
use Rattle.rules.proofs.Takings.{answer_start, answer_behind, answer_top, answer_rows, answer_nodes, answer_at}
use Rattle.rules.proofs.Conjunctions.{every_append}
use Rattle.rules.proofs.Steps.{either, next_checked, step_cases}
use Rattle.rules.proofs.RuleLaws.{numbered}

abbrev pub FromOne : Answer → Type 0
FromOne (refuse q) = 1 ≤ q.number
FromOne (go ph) = Unit
FromOne (hand p s) = Unit

from_one_next : {A : Type 0} (f : A → Answer) (rs : List Rule) (a : A) → numbered rs ≡ true → FromOne (f a) → FromOne (next f (checked rs a))
from_one_next f rs a h k = next_checked FromOne (λ r n. n) f rs a h (λ e. k)

from_one_pick : (t : Bool) (x y : Answer) → FromOne x → FromOne y → FromOne (pick t x y)
from_one_pick t x y a b = either FromOne t x y (λ e. a) (λ e. b)

-- ---- lists of rules

one_number : (n : ℕ) (about : Pair → Text) (holds : Pair → Bool) → leb 1 n ≡ true → (ps : List Pair) → numbered (map (λ (p : Pair). rule n (about p) (holds p)) ps) ≡ true
one_number n about holds h [] = refl
one_number n about holds h (p ∷ ps) = rw (h, one_number n about holds h ps)

abbrev test : Rule → Bool
test q = leb 1 q.number

module _ (format : ℕ) (fs : List Text) where
  pub parents_written_lem : numbered (parents_written format fs) ≡ true
  unfolding parents_written
  parents_written_lem = one_number 8 (λ (p : Pair). p.parent) (λ (p : Pair). good (secondary_parent p)) refl (its_pairs format fs)

  pub tags_short_lem : (tags : ℕ) → numbered (tags_short format fs tags) ≡ true
  unfolding tags_short
  tags_short_lem tags = one_number 10 (λ (p : Pair). p.label) (λ (p : Pair). at_most (tag_limit sec_edge_tags) p.label) refl (its_pairs format fs)

  pub tags_known_lem : (ts : Tables) (tags : ℕ) → numbered (tags_known format fs ts tags) ≡ true
  unfolding tags_known
  tags_known_lem ts tags = one_number 18 (λ (p : Pair). p.label) (λ (p : Pair). known ts sec_edge_tags p.label) refl (its_pairs format fs)

  pub parents_allowed_lem : (n : ℕ) → numbered (parents_allowed format fs n) ≡ true
  unfolding parents_allowed
  parents_allowed_lem n = one_number 19 (λ (p : Pair). p.parent) (is_another n) refl (its_pairs format fs)

-- the rules of a node's line behind those of its kind: 8, 10, some of its own, 18, 19
pub node_numbered : (format : ℕ) (fs : List Text) (tags : ℕ) (own : List Rule) (ts : Tables) (n : ℕ) → numbered own ≡ true
    → numbered (parents_written format fs ++ tags_short format fs tags ++ (own ++ tags_known format fs ts tags) ++ parents_allowed format fs n) ≡ true
node_numbered format fs tags own ts n h =
    every_append test (parents_written format fs ++ tags_short format fs tags ++ (own ++ tags_known format fs ts tags)) (parents_allowed format fs n)
    (every_append test (parents_written format fs ++ tags_short format fs tags) (own ++ tags_known format fs ts tags)
    (every_append test (parents_written format fs) (tags_short format fs tags) (parents_written_lem format fs) (tags_short_lem format fs tags))
    (every_append test own (tags_known format fs ts tags) h (tags_known_lem format fs ts tags)))
    (parents_allowed_lem format fs n)

-- ---- lines

pub word_from_one : (f : Node → Answer) (format : ℕ) (ts : Tables) (s : SoFar) (line : Text) → ((n : Node) → FromOne (f n))
    → FromOne (next f (word_of format ts s line))
unfolding word_of
word_from_one f format ts s line k =
    let fs = fields (columns line) in
    from_one_next f _ _ (node_numbered format fs word_tags (rule 16 line (ltb s.words word_limit && roomy format s.edges fs) ∷ []) ts s.words refl) (k _)

pub phrase_from_one : (f : Node → Answer) (format : ℕ) (ts : Tables) (s : SoFar) (line : Text) → ((n : Node) → FromOne (f n))
    → FromOne (next f (phrase_of format ts s line))
unfolding phrase_of
phrase_from_one f format ts s line k =
    let fs = fields (columns line) in
    let n = value (number phrase_number (behind_hash (text fs 0)).bytes) in
    from_one_next f _ _ (node_numbered format fs node_tags (rule 16 line (roomy format s.edges fs) ∷ rule 17 line (not (s.given_before n)) ∷ []) ts n refl) (k _)

row_from_one : (f : Row → Answer) (n : ℕ) (rs : List Row) (line : Text) → ((r : Row) → FromOne (f r)) → FromOne (next f (row_of n rs line))
unfolding origin_row editor_row tag_row
row_from_one f n rs line k = by (eqb n origins) (eqb n editors)
  where
    by : (t u : Bool) → FromOne (next f (pick t (origin_row rs line) (pick u (editor_row rs line) (tag_row n rs line))))
    by true u = from_one_next f _ _ refl (k _)
    by false true = from_one_next f _ _ refl (k _)
    by false false = from_one_next f _ _ refl (k _)

module _ (line first : Text) where
  start_from_one : FromOne (answer_start line first)
  unfolding answer_start format_of
  start_from_one = from_one_pick (reads (bytes "#FORMAT") first) _ _ (from_one_next _ _ _ refl tt) (omega arith)

  behind_from_one : (p : Preamble) (used : List ℕ) → FromOne (answer_behind line first p used)
  unfolding answer_behind heading_of
  behind_from_one p used = from_one_pick (reads (bytes "#BOS") first) _ _ (from_one_next _ _ _ refl tt) (omega arith)

  top_from_one : (p : Preamble) (used : List ℕ) → FromOne (answer_top line first p used)
  unfolding answer_top table_opened
  top_from_one p used = from_one_pick (reads (bytes "#BOT") first) _ _ (from_one_next _ _ _ refl tt) (behind_from_one p used)

  rows_from_one : (p : Preamble) (n : ℕ) (rs : List Row) → FromOne (answer_rows line first p n rs)
  unfolding answer_rows table_ended
  rows_from_one p n rs =
      from_one_pick (reads (bytes "#EOT") first) _ _ (from_one_next _ _ _ refl tt)
      (from_one_pick (starts_row first) _ _ (row_from_one _ n rs line (λ r. tt)) (omega arith))

  nodes_from_one : (p : Preamble) (s : Sentence) → FromOne (answer_nodes line first p s)
  unfolding answer_nodes end_of end_rules
  nodes_from_one p s =
      from_one_pick (reads (bytes "#EOS") first) _ _ (from_one_next _ _ _ refl tt)
      (from_one_pick (starts_phrase first) _ _ (phrase_from_one _ p.format p.tables (so_far s) line (λ n. tt))
      (from_one_pick (starts_word first) _ _ (word_from_one _ p.format p.tables (so_far s) line (λ n. tt)) (omega arith)))

line_from_one : (ph : Phase) (used : List ℕ) (line first : Text) → FromOne (answer_at ph used line first)
unfolding answer_at
line_from_one start used line first = start_from_one line first
line_from_one (top p) used line first = top_from_one line first p used
line_from_one (in_table p n rs) used line first = rows_from_one line first p n rs
line_from_one (in_sentence p s) used line first = nodes_from_one line first p s
line_from_one (behind_sentence p) used line first = behind_from_one line first p used

pub step_from_one : (ph : Phase) (used : List ℕ) (line : Text) → FromOne (step ph used line)
step_from_one ph used line = step_cases FromOne (λ r n. n) ph used line tt (λ f. line_from_one ph used line (first_column line))
