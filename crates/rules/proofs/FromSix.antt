-- A line whose bytes and length are as they must be is never refused by a number below 6, and no line by one below 4. Rule by
-- rule.
use Prim.Native.Nat.{ℕ, ◌≤◌}
use native.Mathlib.Omega.{arith}
use mathlib.Core.Path.{◌≡◌, refl, sym, subst}
use mathlib.Core.Bool.{Bool, true, false, not, ◌&&◌}
use Rattle.std.specs.Prelude.{Option, None, Some}
use mathlib.Core.List.{List, [], ◌∷◌, ◌++◌, map}
use lib.Dec.{leb, ltb, eqb}
use Rattle.rules.specs.Lists.{pick, bytes, every}
use Rattle.rules.specs.Bytes.{ignored}
use Rattle.rules.specs.Texts.{Text, reads, at_most, behind_hash}
use Rattle.rules.specs.Columns.{columns, text, fields}
use Rattle.rules.specs.Numbers.{word_limit, phrase_number, number, good, value}
use Rattle.rules.specs.Rules.{Rule, rule, broken, unless, checked}
use Rattle.rules.specs.Tables.{Tables, Row, origins, editors, word_tags, node_tags, sec_edge_tags, known, tag_limit}
use Rattle.rules.specs.Rows.{origin_row, editor_row, tag_row, row_of}
use Rattle.rules.specs.Sentences.{Node, heading_of, end_rules, end_of, SoFar, so_far}
use Rattle.rules.specs.Pairs.{Pair, secondary_parent, is_another}
use Rattle.rules.specs.Nodes.{its_pairs, roomy, word_of, phrase_of, parents_written, tags_short, tags_known, parents_allowed}
use Rattle.rules.specs.Keywords.{format_of, table_opened, table_ended, first_column, starts_row, starts_word, starts_phrase}
use Rattle.rules.specs.Phases.{Preamble, Phase, start, top, in_table, in_sentence, behind_sentence, Answer, refuse, go, hand, next, step}
use Rattle.rules.proofs.Takings.{answer_start, answer_behind, answer_top, answer_rows, answer_nodes, answer_at, answer_to, line_rules, step_answers}
use Rattle.rules.proofs.Conjunctions.{every_append}
use Rattle.rules.proofs.Steps.{either}
use Rattle.rules.proofs.RuleLaws.{reaches}

abbrev pub FromSix : Answer → Type 0
FromSix (refuse q) = 6 ≤ q.number
FromSix (go phase) = Unit
FromSix (hand p s) = Unit

abbrev six : Rule → Bool
six q = leb 6 q.number

next_six : {A : Type 0} (f : A → Answer) (rs : List Rule) (a : A) → every six rs ≡ true → FromSix (f a) → FromSix (next f (checked rs a))
unfolding checked
next_six f rs a h k = by (broken rs) refl
  where
    by : (o : Option Rule) → broken rs ≡ o → FromSix (next f (unless o a))
    by None e = k
    by (Some q) e = reaches 6 rs h q e

pick_six : (t : Bool) (x y : Answer) → FromSix x → FromSix y → FromSix (pick t x y)
pick_six t x y a b = either FromSix t x y (λ e. a) (λ e. b)

-- ---- the rules of a node's line

pairs_six : (n : ℕ) (about : Pair → Text) (holds : Pair → Bool) → leb 6 n ≡ true → (ps : List Pair) → every six (map (λ (p : Pair). rule n (about p) (holds p)) ps) ≡ true
pairs_six n about holds h [] = refl
pairs_six n about holds h (p ∷ ps) = rw (h, pairs_six n about holds h ps)

node_six : (format : ℕ) (fs : List Text) (tags : ℕ) (own : List Rule) (ts : Tables) (n : ℕ) → every six own ≡ true
    → every six (parents_written format fs ++ tags_short format fs tags ++ (own ++ tags_known format fs ts tags) ++ parents_allowed format fs n) ≡ true
unfolding parents_written tags_short tags_known parents_allowed
node_six format fs tags own ts n h =
    let ps = its_pairs format fs in
    every_append six (parents_written format fs ++ tags_short format fs tags ++ (own ++ tags_known format fs ts tags)) (parents_allowed format fs n)
    (every_append six (parents_written format fs ++ tags_short format fs tags) (own ++ tags_known format fs ts tags)
    (every_append six (parents_written format fs) (tags_short format fs tags)
    (pairs_six 8 (λ (p : Pair). p.parent) (λ (p : Pair). good (secondary_parent p)) refl ps)
    (pairs_six 10 (λ (p : Pair). p.label) (λ (p : Pair). at_most (tag_limit sec_edge_tags) p.label) refl ps))
    (every_append six own (tags_known format fs ts tags) h (pairs_six 18 (λ (p : Pair). p.label) (λ (p : Pair). known ts sec_edge_tags p.label) refl ps)))
    (pairs_six 19 (λ (p : Pair). p.parent) (is_another n) refl ps)

-- ---- lines

word_six : (f : Node → Answer) (format : ℕ) (ts : Tables) (s : SoFar) (line : Text) → ((n : Node) → FromSix (f n)) → FromSix (next f (word_of format ts s line))
unfolding word_of
word_six f format ts s line k =
    let fs = fields (columns line) in
    next_six f _ _ (node_six format fs word_tags (rule 16 line (ltb s.words word_limit && roomy format s.edges fs) ∷ []) ts s.words refl) (k _)

phrase_six : (f : Node → Answer) (format : ℕ) (ts : Tables) (s : SoFar) (line : Text) → ((n : Node) → FromSix (f n)) → FromSix (next f (phrase_of format ts s line))
unfolding phrase_of
phrase_six f format ts s line k =
    let fs = fields (columns line) in
    let n = value (number phrase_number (behind_hash (text fs 0)).bytes) in
    next_six f _ _ (node_six format fs node_tags (rule 16 line (roomy format s.edges fs) ∷ rule 17 line (not (s.given_before n)) ∷ []) ts n refl) (k _)

row_six : (f : Row → Answer) (n : ℕ) (rs : List Row) (line : Text) → ((r : Row) → FromSix (f r)) → FromSix (next f (row_of n rs line))
unfolding origin_row editor_row tag_row
row_six f n rs line k = by (eqb n origins) (eqb n editors)
  where
    by : (t u : Bool) → FromSix (next f (pick t (origin_row rs line) (pick u (editor_row rs line) (tag_row n rs line))))
    by true u = next_six f _ _ refl (k _)
    by false true = next_six f _ _ refl (k _)
    by false false = next_six f _ _ refl (k _)

module _ (line first : Text) where
  behind_six : (p : Preamble) (used : List ℕ) → FromSix (answer_behind line first p used)
  unfolding answer_behind heading_of
  behind_six p used = pick_six (reads (bytes "#BOS") first) _ _ (next_six _ _ _ refl tt) (omega arith)

  pub line_six : (phase : Phase) (used : List ℕ) → FromSix (answer_at phase used line first)
  unfolding answer_at answer_start format_of answer_top table_opened answer_rows table_ended answer_nodes end_of end_rules
  line_six start used = pick_six (reads (bytes "#FORMAT") first) _ _ (next_six _ _ _ refl tt) (omega arith)
  line_six (top p) used = pick_six (reads (bytes "#BOT") first) _ _ (next_six _ _ _ refl tt) (behind_six p used)
  line_six (in_table p n rs) used =
      pick_six (reads (bytes "#EOT") first) _ _ (next_six _ _ _ refl tt)
      (pick_six (starts_row first) _ _ (row_six _ n rs line (λ r. tt)) (omega arith))
  line_six (in_sentence p s) used =
      pick_six (reads (bytes "#EOS") first) _ _ (next_six _ _ _ refl tt)
      (pick_six (starts_phrase first) _ _ (phrase_six _ p.format p.tables (so_far s) line (λ n. tt))
      (pick_six (starts_word first) _ _ (word_six _ p.format p.tables (so_far s) line (λ n. tt)) (omega arith)))
  line_six (behind_sentence p) used = behind_six p used

-- ---- any line is refused from 4 on

abbrev pub FromFour : Answer → Type 0
FromFour (refuse q) = 4 ≤ q.number
FromFour (go phase) = Unit
FromFour (hand p s) = Unit

six_four : (a : Answer) → FromSix a → FromFour a
six_four (refuse q) k = omega arith
six_four (go phase) k = tt
six_four (hand p s) k = tt

pub step_from_four : (phase : Phase) (used : List ℕ) (line : Text) → FromFour (step phase used line)
unfolding checked answer_to
step_from_four phase used line = subst FromFour (sym (step_answers phase used line)) (by (broken (line_rules line)) refl)
  where
    to : (t : Bool) → FromFour (pick t (go phase) (answer_at phase used line (first_column line)))
    to true = tt
    to false = six_four (answer_at phase used line (first_column line)) (line_six line (first_column line) phase used)

    by : (o : Option Rule) → broken (line_rules line) ≡ o → FromFour (next (answer_to phase used) (unless o line))
    by None e = to (ignored line.bytes)
    by (Some q) e = reaches 4 (line_rules line) refl q e
