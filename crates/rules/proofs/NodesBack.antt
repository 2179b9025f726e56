-- A word or a phrase that is fit to be printed is read back from its printed line as the same node. Its rules hold of the
-- columns that it is printed with, and places don't count.
use Prim.Native.Nat.{ℕ, ◌+◌, ◌≤◌, ◌<◌}
use native.Mathlib.Omega.{arith}
use mathlib.Core.Path.{◌≡◌, refl, sym, ap, ap₂, ◌∙◌, subst}
use mathlib.Core.Bool.{true, false, not}
use mathlib.Core.List.{List, [], ◌∷◌, ◌++◌, map}
use lib.ListN.{length, drop, length-map}
use Rattle.rules.specs.Lists.{empty, every, same, bytes}
use Rattle.rules.specs.Bytes.{newline, percents}
use Rattle.rules.specs.Texts.{Text, no_text, bare}
use Rattle.rules.specs.Columns.{columns, text, fields, comment}
use Rattle.rules.specs.Numbers.{word_limit, edge_limit, phrase_number, number}
use Rattle.rules.specs.Rules.{granted}
use Rattle.rules.specs.Tables.{Tables, word_tags, node_tags}
use Rattle.rules.specs.Sentences.{Node, Sentence, edges_of, listed, so_far}
use Rattle.rules.specs.Pairs.{as_edge}
use Rattle.rules.specs.Nodes.{its_pairs, node_of, word_of, phrase_of}
use Rattle.rules.specs.Keywords.{starts_word, starts_phrase}
use Rattle.rules.specs.Phases.{Preamble, Phase, in_sentence, go, next, step, with_word, with_phrase}
use Rattle.rules.specs.Meaning.{bare_edge, bare_node, meant_tables}
use Rattle.rules.specs.Tidy.{tab, node_name, node_line}
use Rattle.rules.proofs.Takings.{go_word, go_phrase, answer_nodes, answer_at}
use Rattle.rules.proofs.Conjunctions.{and_left}
use Rattle.rules.proofs.PrintedLines.{unplaced, solid, field, printed_fields, printed_comment, parted_printed}
use Rattle.rules.proofs.PlacelessNodes.{NodeHolds, text_bare, holds_placed, node_placeless}
use Rattle.rules.proofs.NodesKept.{tail_columns, print_columns, printed_node, NodeKept, WordKept, PhraseKept}
use Rattle.rules.proofs.NodeLines.{WordHolds, word_read, word_passes, PhraseHolds, phrase_read, phrase_passes}
use Rattle.rules.proofs.Kept.{means}
use Rattle.rules.proofs.Steps.{pick_true, pick_false}
use Rattle.rules.proofs.Stands.{step_printed}

pub node_printed : (n : Node) → node_line n ≡ printed_node n ++ (newline ∷ [])
node_printed n = parted_printed tab (node_name n) (tail_columns n) n.comment

module _ (format : ℕ) (us : Tables) (tags : ℕ) (word : Text) (n : Node) (k : NodeKept format (meant_tables us) tags word n) (at : ℕ) where
  abbrev line : Text
  line = record { start = at; bytes = printed_node n }

  abbrev fs : List Text
  fs = fields (columns line)

  fields_back : map bare fs ≡ map unplaced (print_columns n)
  fields_back = printed_fields tab refl n.comment.bytes at (node_name n) (tail_columns n) k.columns

  first_back_lem : bare (text fs 0) ≡ unplaced (node_name n)
  first_back_lem = sym (text_bare fs 0) ∙ ap (λ (l : List Text). text l 0) fields_back

  holds_back : NodeHolds format fs us tags n.number
  holds_back = holds_placed format fs us tags n.number (subst (λ (l : List Text). NodeHolds format l (meant_tables us) tags n.number) (sym fields_back) k.holds)

  node_back : (w : Text) → bare w ≡ word → bare_node (node_of format fs n.number w (comment (columns line))) ≡ n
  node_back w e =
      sym (node_placeless format fs n.number w (comment (columns line)))
      ∙ ap₂ (λ (l : List Text) (x : Text). node_of format l n.number x (bare (comment (columns line)))) fields_back e
      ∙ ap (node_of format (map unplaced (print_columns n)) n.number word) (printed_comment tab refl n.comment.bytes at (node_name n) (tail_columns n) k.columns k.trimmed)
      ∙ k.again

  pairs_back : (w : Text) → bare w ≡ word → length (its_pairs format fs) ≡ length n.secondary
  pairs_back w e =
      sym (length-map (its_pairs format fs) as_edge) ∙ sym (length-map (map as_edge (its_pairs format fs)) bare_edge) ∙ ap (λ (m : Node). length m.secondary) (node_back w e)

  node_solid : solid (node_name n) ≡ true
  node_solid = and_left (solid (node_name n)) (not (same (node_name n) percents)) (and_left (field (node_name n)) (every field (tail_columns n)) k.columns)

  node_step : (phase : Phase) (used : List ℕ) → step phase used line ≡ answer_at phase used line (record { start = at; bytes = node_name n })
  node_step phase used = step_printed tab refl phase used at (node_name n) (tail_columns n) n.comment.bytes node_solid k.fit

-- ---- in a sentence

-- what a node's line does: a node that is the same without places, and where the reading then stands
pub record NodeBack (p : Preamble) (s : Sentence) (more : Node → Sentence) (used : List ℕ) (at : ℕ) (n : Node) : Type 0 where
  pub read : Node
  pub same : bare_node read ≡ n
  pub answer : step (in_sentence p s) used (record { start = at; bytes = printed_node n }) ≡ go (in_sentence p (more read))

module _ (p : Preamble) (s : Sentence) (used : List ℕ) (at : ℕ) (n : Node) (room : edges_of s + length n.secondary ≤ edge_limit) where
  abbrev line_back : Text
  line_back = record { start = at; bytes = printed_node n }

  abbrev first_back : Text
  first_back = record { start = at; bytes = node_name n }

  word_taken : (q : Node) → same (node_name n) (bytes "#EOS") ≡ false → starts_phrase first_back ≡ false → starts_word first_back ≡ true
      → word_of p.format p.tables (so_far s) line_back ≡ granted q
      → answer_at (in_sentence p s) used line_back first_back ≡ go (in_sentence p (with_word s q))
  unfolding answer_at answer_nodes
  word_taken q a b c e = pick_false _ _ _ a ∙ pick_false _ _ _ b ∙ pick_true _ _ _ c ∙ ap (next (go_word p s)) e

  phrase_taken : (q : Node) → same (node_name n) (bytes "#EOS") ≡ false → starts_phrase first_back ≡ true
      → phrase_of p.format p.tables (so_far s) line_back ≡ granted q
      → answer_at (in_sentence p s) used line_back first_back ≡ go (in_sentence p (with_phrase s q))
  unfolding answer_at answer_nodes
  phrase_taken q a b e = pick_false _ _ _ a ∙ pick_true _ _ _ b ∙ ap (next (go_phrase p s)) e

  pub word_back : WordKept p.format (means p) n → empty s.phrases ≡ true → n.number ≡ length s.words → length s.words < word_limit → NodeBack p s (with_word s) used at n
  word_back k none_yet e few =
      let format = p.format in
      let us = p.tables in
      let w = length s.words in
      let word = unplaced (node_name n) in
      let first = first_back_lem format us word_tags word n k.node at in
      let read = word_read format us (so_far s) line_back in
      let h : WordHolds format us (so_far s) line_back = record {
        own = subst (NodeHolds format (fields (columns line_back)) us word_tags) e (holds_back format us word_tags word n k.node at);
        first = none_yet;
        few = few;
        room = omega (arith, pairs_back format us word_tags word n k.node at (text (fields (columns line_back)) 0) first);
      } in
      record {
        read = read;
        same =
            ap (λ (i : ℕ). bare_node (node_of format (fields (columns line_back)) i (text (fields (columns line_back)) 0) (comment (columns line_back)))) (sym e)
            ∙ node_back format us word_tags word n k.node at (text (fields (columns line_back)) 0) first;
        answer = node_step format us word_tags word n k.node at (in_sentence p s) used ∙ word_taken read k.no_end k.no_phrase k.begins (word_passes format us (so_far s) line_back h);
      }

  pub phrase_back : PhraseKept p.format (means p) n → listed s.phrases n.number ≡ false → NodeBack p s (with_phrase s) used at n
  phrase_back k new =
      let format = p.format in
      let us = p.tables in
      let first : (text (fields (columns line_back)) 0).bytes ≡ node_name n = ap (λ (t : Text). t.bytes) (first_back_lem format us node_tags no_text n k.node at) in
      let read = phrase_read format us (so_far s) line_back n.number in
      let h : PhraseHolds format us (so_far s) line_back n.number = record {
        own = holds_back format us node_tags no_text n k.node at;
        number = ap (λ (x : List ℕ). number phrase_number (drop 1 x)) first ∙ k.number;
        new = new;
        room = omega (arith, pairs_back format us node_tags no_text n k.node at no_text refl);
      } in
      record {
        read = read;
        same = node_back format us node_tags no_text n k.node at no_text refl;
        answer = node_step format us node_tags no_text n k.node at (in_sentence p s) used ∙ phrase_taken read k.no_end k.begins (phrase_passes format us (so_far s) line_back n.number h);
      }
