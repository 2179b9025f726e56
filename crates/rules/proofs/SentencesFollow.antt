-- Lines of sentences that are as the grammar says are taken, whatever their places. By one step along the words, the
-- phrases and the sentences, with what follows them handed in.
use Prim.Native.Nat.{ℕ, ◌+◌, ◌≤◌}
use native.Mathlib.Omega.{arith}
use mathlib.Core.Path.{◌≡◌, refl, sym, ap, ◌∙◌, subst}
use mathlib.Core.Bool.{true}
use mathlib.Core.List.{List, [], ◌∷◌, ◌++◌, append_assoc, append-nil}
use lib.ListN.{length, length-append}
use Rattle.rules.specs.Lists.{bytes, empty, Each}
use Rattle.rules.specs.Texts.{Text, reads}
use Rattle.rules.specs.Numbers.{word_limit, edge_limit, phrase_number}
use Rattle.rules.specs.Sentences.{Node, Sentence, end_of, so_far}
use Rattle.rules.specs.Nodes.{word_of, phrase_of}
use Rattle.rules.specs.Keywords.{first_column, starts_phrase}
use Rattle.rules.specs.Phases.{Preamble, Phase, in_sentence, hand, next, with_word, with_phrase}
use Rattle.rules.specs.GrammarLines.{Differ}
use Rattle.rules.proofs.Takings.{go_word, go_phrase, answer_nodes, answer_at}
use Rattle.rules.proofs.Conjunctions.{false_if_never}
use Rattle.rules.proofs.Elements.{map_append, maps_more}
use Rattle.rules.proofs.BareColumns.{column_at}
use Rattle.rules.specs.GrammarSurvey.{node_read}
use Rattle.rules.specs.GrammarTables.{TableLines}
use Rattle.rules.specs.GrammarNodes.{NodeLine, PhraseLine, WordFits, PhraseFits, phrase_says}
use Rattle.rules.specs.GrammarSentences.{HeadLine, numbers_of, nodes_of, secondary_edges, node_lines}
use Rattle.rules.proofs.SaidOfLists.{differ_map_next}
use Rattle.rules.proofs.TestsAsFacts.{numbers_of_nodes}
use Rattle.rules.proofs.NumeralsAsSaid.{number_said}
use Rattle.rules.proofs.TablesAsSaid.{Stand}
use Rattle.rules.proofs.KeywordsAsSaid.{starts_first}
use Rattle.rules.proofs.HeadsAsSaid.{front_column}
use Rattle.rules.proofs.LineKinds.{WordStart, first_given, number_digits, sign_phrase, word_starts, word_no_phrase, word_no_end, phrase_no_end}
use Rattle.rules.proofs.WordsAndPhrases.{word_grants, phrase_grants}
use Rattle.rules.proofs.SentenceEnds.{SentenceAlike, phrase_numbers, edges_both, words_count, given_before}
use Rattle.rules.proofs.SentencesSoFar.{word_more}
use Rattle.rules.proofs.TablesFollow.{Follows, one_line}
use Rattle.rules.proofs.LineByLine.{numbers_in, Through}

none_empty : (ns : List Node) → numbers_of_nodes ns ≡ [] → empty ns ≡ true
none_empty [] e = refl
none_empty (n ∷ ns) e = absurd (let z : ◌≡◌ {A = ℕ} 0 1 = cc in omega arith)

-- edges in front of a node, its own, and those behind it
edges_split : (ns : List NodeLine) (n : NodeLine) (more : List NodeLine)
    → length (secondary_edges ns) + length n.secondary ≤ length (secondary_edges (ns ++ (n ∷ more)))
edges_split [] n more = omega (arith, length-append n.secondary (secondary_edges more))
edges_split (m ∷ ns) n more =
    omega (arith, edges_split ns n more, length-append m.secondary (secondary_edges ns), length-append m.secondary (secondary_edges (ns ++ (n ∷ more))))

module _ (E : Phase → List Sentence → Type 0) (p : Preamble) (ts : List TableLines) (stand : Stand p.tables ts) (out : List Sentence) (head : HeadLine) (tail : List (List ℕ)) where
  -- which kind of line it is among nodes
  module _ (K : Phase → List Sentence → Type 0) (line : Text) (s : Sentence) where
    abbrev first : Text
    first = first_column line

    taken_word : WordStart first.bytes → 1 ≤ length first.bytes
        → Through K out (next (go_word p s) (word_of p.format p.tables (so_far s) line)) → Through K out (answer_at (in_sentence p s) (numbers_in out) line first)
    unfolding answer_at answer_nodes
    taken_word w g t =
        rw (false_if_never (reads (bytes "#EOS") first) (word_no_end first w), false_if_never (starts_phrase first) (word_no_phrase first w), word_starts first g w) t

    taken_phrase : starts_phrase first ≡ true
        → Through K out (next (go_phrase p s) (phrase_of p.format p.tables (so_far s) line)) → Through K out (answer_at (in_sentence p s) (numbers_in out) line first)
    unfolding answer_at answer_nodes
    taken_phrase h t = rw (false_if_never (reads (bytes "#EOS") first) (phrase_no_end first h), h) t

    pub taken_end : reads (bytes "#EOS") first ≡ true → Through K out (next (λ n. hand p s) (end_of (so_far s) line)) → Through K out (answer_at (in_sentence p s) (numbers_in out) line first)
    unfolding answer_at answer_nodes
    taken_end h t = rw h t

  pub words_follow : (rest words : List NodeLine) (s : Sentence) → SentenceAlike s head words [] → Each (WordFits p.format ts) rest → length (words ++ rest) ≤ word_limit
      → length (secondary_edges (words ++ rest)) ≤ edge_limit
      → ((s : Sentence) → SentenceAlike s head (words ++ rest) [] → Follows E tail (in_sentence p s) out) → Follows E (node_lines rest ++ tail) (in_sentence p s) out
  words_follow [] words s a f few room k = k s (subst (λ (ws : List NodeLine). SentenceAlike s head ws []) (sym (append-nil words)) a)
  words_follow (w ∷ rest) words s a f few room k =
      let ls = node_lines rest ++ tail in
      let again = append_assoc words (w ∷ []) rest in
      one_line E w.line ls (in_sentence p s) out (λ line e st.
      let at_first : (first_column line).bytes ≡ w.first = starts_first line st ∙ ap (column_at 0) e ∙ front_column w.line w.first _ w.comment f.0.node.columns in
      taken_word (Follows E ls) line s (subst WordStart (sym at_first) f.0.word)
      (subst (λ (xs : List ℕ). 1 ≤ length xs) (sym (starts_first line st)) (first_given line.bytes st))
      (word_grants p.format p.tables ts stand (Follows E ls) out line (so_far s) (go_word p s) w (sym e) f.0
      (none_empty s.phrases (phrase_numbers s head words [] a))
      (omega (arith, few, words_count s head words [] a, length-append words (w ∷ rest)))
      (omega (arith, room, edges_both s head words [] a, edges_split words w rest))
      (λ r same.
      words_follow rest (words ++ (w ∷ [])) (with_word s r)
      (record {
        heading_is = a.heading_is;
        words_are = word_more s.words words r w a.words_are same;
        phrases_are = a.phrases_are;
      })
      f.1 (subst (λ (ws : List NodeLine). length ws ≤ word_limit) (sym again) few)
      (subst (λ (ws : List NodeLine). length (secondary_edges ws) ≤ edge_limit) (sym again) room)
      (λ s' b. k s' (subst (λ (ws : List NodeLine). SentenceAlike s' head ws []) again b)))))

  pub phrases_follow : (words : List NodeLine) (rest phrases : List PhraseLine) (s : Sentence) → SentenceAlike s head words phrases → Each (PhraseFits p.format ts) rest → Differ (numbers_of (phrases ++ rest))
      → length (secondary_edges words) + length (secondary_edges (nodes_of (phrases ++ rest))) ≤ edge_limit
      → ((s : Sentence) → SentenceAlike s head words (phrases ++ rest) → Follows E tail (in_sentence p s) out) → Follows E (node_lines (nodes_of rest) ++ tail) (in_sentence p s) out
  phrases_follow words [] phrases s a f d room k = k s (subst (SentenceAlike s head words) (sym (append-nil phrases)) a)
  phrases_follow words (q ∷ rest) phrases s a f d room k =
      let ls = node_lines (nodes_of rest) ++ tail in
      let again = append_assoc phrases (q ∷ []) rest in
      let nodes : nodes_of (phrases ++ (q ∷ rest)) ≡ nodes_of phrases ++ (q.node ∷ nodes_of rest) = map_append (λ (p : PhraseLine). p.node) phrases (q ∷ rest) in
      one_line E q.node.line ls (in_sentence p s) out (λ line e st.
      let at_first : (first_column line).bytes ≡ q.node.first = starts_first line st ∙ ap (column_at 0) e ∙ front_column q.node.line q.node.first _ q.node.comment f.0.node.columns in
      taken_phrase (Follows E ls) line s
      (sign_phrase (first_column line).bytes f.0.digits (at_first ∙ f.0.sign) (number_digits phrase_number f.0.digits q.number ((number_said phrase_number f.0.digits q.number).1 f.0.number_written)))
      (phrase_grants p.format p.tables ts stand (Follows E ls) out line (so_far s) (go_phrase p s) q (sym e) f.0
      (λ h. differ_map_next (λ (p : PhraseLine). p.number) phrases q rest d ((given_before s head words phrases a q.number).0 h))
      (omega (arith, room, edges_both s head words phrases a, ap (λ (ns : List NodeLine). length (secondary_edges ns)) nodes, edges_split (nodes_of phrases) q.node (nodes_of rest)))
      (λ r same.
      phrases_follow words rest (phrases ++ (q ∷ [])) (with_phrase s r)
      (record {
        heading_is = a.heading_is;
        words_are = a.words_are;
        phrases_are = maps_more node_read phrase_says s.phrases phrases r q a.phrases_are same;
      })
      f.1 (subst (λ (ps : List PhraseLine). Differ (numbers_of ps)) (sym again) d)
      (subst (λ (ps : List PhraseLine). length (secondary_edges words) + length (secondary_edges (nodes_of ps)) ≤ edge_limit) (sym again) room)
      (λ s' b. k s' (subst (SentenceAlike s' head words) again b)))))
