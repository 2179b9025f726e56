-- Each line of a sentence keeps what holds in it: a word or a phrase is one more node that is fit, and the last line hands
-- out a sentence that is. By the line's first column.
use Prim.Native.Nat.{ℕ, ◌+◌, ◌≤◌}
use native.Mathlib.Omega.{arith}
use mathlib.Core.Path.{◌≡◌, refl, sym, ap, ◌∙◌, subst}
use mathlib.Core.Bool.{true, false}
use Rattle.std.specs.Prelude.{Some}
use mathlib.Core.List.{List, [], ◌∷◌, ◌++◌, map}
use lib.ListN.{length, drop, length-map}
use Rattle.rules.specs.Lists.{every, same, bytes}
use Rattle.rules.specs.Texts.{Text, no_text, given, bare, reads}
use Rattle.rules.specs.Columns.{columns, text, fields}
use Rattle.rules.specs.Numbers.{phrase_number, number}
use Rattle.rules.specs.Rules.{Rule}
use Rattle.rules.specs.Tables.{Tables, word_tags, node_tags}
use Rattle.rules.specs.Sentences.{Node, Sentence, edges_of, gapless, parented, end_rules, end_of, so_far}
use Rattle.rules.specs.Pairs.{as_edge}
use Rattle.rules.specs.Nodes.{its_pairs, word_of, phrase_of}
use Rattle.rules.specs.Keywords.{first_column, starts_word, starts_phrase}
use Rattle.rules.specs.Phases.{Preamble, Answer, refuse, hand, next}
use Rattle.rules.specs.Meaning.{bare_edge, bare_node, bare_heading, sentence_number_of}
use Rattle.rules.specs.Tidy.{node_name}
use Rattle.rules.proofs.Takings.{go_word, go_phrase, answer_nodes}
use Rattle.rules.proofs.EachElement.{each_more}
use Rattle.rules.proofs.Conjunctions.{and_left}
use Rattle.rules.proofs.RulesHeld.{held}
use Rattle.rules.proofs.Elements.{map_append}
use Rattle.rules.proofs.Sorting.{distinct_last}
use Rattle.rules.proofs.PrintedLines.{unplaced}
use Rattle.rules.proofs.LineFit.{LineFit}
use Rattle.rules.proofs.NumbersAgain.{number_again}
use Rattle.rules.proofs.Steps.{either, next_checked, first_there}
use Rattle.rules.proofs.NodesKept.{NodeKept, node_kept, WordKept, PhraseKept}
use Rattle.rules.proofs.NodeLines.{word_read, word_cases, phrase_read, phrase_cases}
use Rattle.rules.proofs.SentencesKept.{bare_sentence, PartKept, SentenceKept, part_word, part_phrase, edges_bare, listed_bare, gapless_bare, parents_bare}
use Rattle.rules.proofs.Kept.{PreambleKept, means, KeptInSentence, KeptAnswer}
use Rattle.rules.proofs.FirstColumns.{phrase_given, word_given, hash_form}

module _ (ss : List Sentence) (line : Text) (f : LineFit line.bytes) (p : Preamble) (k : PreambleKept p) (s : Sentence) (t : KeptInSentence p s ss) where
  abbrev first : Text
  first = first_column line

  abbrev P : Answer → Type 0
  P a = KeptAnswer ss a

  bad : (r : Rule) → 1 ≤ r.number → P (refuse r)
  bad r h = h

  abbrev format : ℕ
  format = p.format

  abbrev ts : Tables
  ts = p.tables

  end_kept : P (next (λ n. hand p s) (end_of (so_far s) line))
  unfolding end_of end_rules
  end_kept =
      let rules = end_rules s.heading.number (gapless s.phrases) (every (parented s.phrases) (s.words ++ s.phrases)) line in
      next_checked P bad (λ n. hand p s) rules s.heading.number refl
      (λ h.
      let r = held rules h in
      let b = bare_sentence s in
      let kept : SentenceKept p.format (means p) b = record {
        part = t.part;
        whole = gapless_bare s.phrases ∙ r.1.1.1.0;
        parents =
            ap (every (parented b.phrases)) (sym (map_append bare_node s.words s.phrases)) ∙ parents_bare s.phrases (s.words ++ s.phrases)
            ∙ r.1.1.1.1.0;
      } in
      record {
        preamble = k;
        sentences =
            record {
              each = each_more (SentenceKept p.format (means p)) ss b t.sentences.each kept;
              distinct = distinct_last sentence_number_of ss b t.sentences.distinct t.new;
            };
        both = t.part.heading.both;
      })

  -- as many edges as are counted
  room_bare : (n : Node) (x : ℕ) → length n.secondary ≡ x → edges_of s + x ≤ 512 → edges_of (bare_sentence s) + length (bare_node n).secondary ≤ 512
  room_bare n x e h = omega (arith, edges_bare s.words, edges_bare s.phrases, length-map n.secondary bare_edge, e)

  words_kept : reads (bytes "#EOS") first ≡ false → starts_phrase first ≡ false → starts_word first ≡ true
      → P (next (go_word p s) (word_of format ts (so_far s) line))
  words_kept no_end no_phrase begins =
      let o = first_there line f (word_given first begins) in
      let w = length s.words in
      word_cases format ts (so_far s) line P bad (go_word p s)
      (λ h.
      let fs = fields (columns line) in
      let n = word_read format ts (so_far s) line in
      let field : text fs 0 ≡ o.first.text = ap (λ (l : List Text). text l 0) o.fields in
      let there : given (text fs 0) ≡ true = ap given field ∙ and_left (given o.first.text) _ o.solid in
      let is : node_name n ≡ o.first.text.bytes = rw there (ap (λ (t : Text). t.bytes) field) in
      let word : unplaced (node_name (bare_node n)) ≡ bare (text fs 0) = ap unplaced (is ∙ ap (λ (t : Text). t.bytes) (sym field)) in
      let kept : WordKept p.format (means p) (bare_node n) = record {
        node = subst (λ (x : Text). NodeKept p.format (means p) word_tags x (bare_node n)) (sym word) (node_kept line f o format ts word_tags w (text fs 0) h.own is);
        no_end = ap (λ (x : List ℕ). same x (bytes "#EOS")) is ∙ ap (reads (bytes "#EOS")) (sym o.column) ∙ no_end;
        no_phrase = ap (λ (x : List ℕ). starts_phrase (unplaced x)) is ∙ ap starts_phrase (sym o.column) ∙ no_phrase;
        begins = ap (λ (x : List ℕ). starts_word (unplaced x)) is ∙ ap starts_word (sym o.column) ∙ begins;
      } in
      let few = length-map s.words bare_node in
      record {
        preamble = k;
        part =
            subst (λ (ws : List Node). PartKept p.format (means p) (record { start = 0; heading = bare_heading s.heading; words = ws; phrases = map bare_node s.phrases }))
            (sym (map_append bare_node s.words (n ∷ [])))
            (part_word format (means p) (bare_sentence s) t.part (bare_node n) (room_bare n (length (its_pairs format fs)) (length-map (its_pairs format fs) as_edge) h.room) kept (sym few) (omega (arith, few, h.few)));
        sentences = t.sentences;
        new = t.new;
      })

  phrases_kept : reads (bytes "#EOS") first ≡ false → starts_phrase first ≡ true
      → P (next (go_phrase p s) (phrase_of format ts (so_far s) line))
  phrases_kept no_end begins =
      let o = first_there line f (phrase_given first begins) in
      phrase_cases format ts (so_far s) line P bad (go_phrase p s)
      (λ i h.
      let fs = fields (columns line) in
      let n = phrase_read format ts (so_far s) line i in
      let c = o.first.text.bytes in
      let field : (text fs 0).bytes ≡ c = ap (λ (l : List Text). (text l 0).bytes) o.fields in
      let numbered : number phrase_number (drop 1 c) ≡ Some i = ap (λ (x : List ℕ). number phrase_number (drop 1 x)) (sym field) ∙ h.number in
      let starts : starts_phrase o.first.text ≡ true = ap starts_phrase (sym o.column) ∙ begins in
      let is : node_name n ≡ c = ap (λ (x : List ℕ). 35 ∷ x) (number_again phrase_number (drop 1 c) i numbered) ∙ sym (hash_form c starts) in
      let kept : PhraseKept p.format (means p) (bare_node n) = record {
        node = node_kept line f o format ts node_tags i no_text h.own is;
        number = ap (λ (x : List ℕ). number phrase_number (drop 1 x)) is ∙ numbered;
        no_end = ap (λ (x : List ℕ). same x (bytes "#EOS")) is ∙ ap (reads (bytes "#EOS")) (sym o.column) ∙ no_end;
        begins = ap (λ (x : List ℕ). starts_phrase (unplaced x)) is ∙ starts;
      } in
      record {
        preamble = k;
        part =
            subst (λ (ps : List Node). PartKept p.format (means p) (record { start = 0; heading = bare_heading s.heading; words = map bare_node s.words; phrases = ps }))
            (sym (map_append bare_node s.phrases (n ∷ [])))
            (part_phrase format (means p) (bare_sentence s) t.part (bare_node n) (room_bare n (length (its_pairs format fs)) (length-map (its_pairs format fs) as_edge) h.room) kept
            (listed_bare s.phrases i ∙ h.new));
        sentences = t.sentences;
        new = t.new;
      })

  pub nodes_kept : P (answer_nodes line first p s)
  unfolding answer_nodes
  nodes_kept =
      either P (reads (bytes "#EOS") first) _ _ (λ e. end_kept)
      (λ e.
      either P (starts_phrase first) _ _ (λ q. phrases_kept e q)
      (λ q. either P (starts_word first) _ _ (λ w. words_kept e q w) (λ w. omega arith)))
