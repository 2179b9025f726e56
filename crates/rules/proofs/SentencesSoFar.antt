-- A word, a phrase or an end that is taken in a sentence leads from what was read to what was read. One law for each kind
-- of line.
use Prim.Native.Nat.{ℕ, suc, ◌+◌, ◌≤◌, ◌<◌}
use native.Mathlib.Nat.{add-zero}
use native.Mathlib.Omega.{arith}
use mathlib.Core.Path.{◌≡◌, refl, sym, ap, ap₂, ◌∙◌, subst}
use mathlib.Core.Logic.{◌⊎◌, inl, inr, ◌↔◌}
use mathlib.Core.Bool.{Bool, true, false, false≢true}
use mathlib.Core.List.{List, [], ◌∷◌, ◌++◌, map, append_assoc, append-nil}
use lib.ListN.{length, length-append, drop}
use Rattle.rules.specs.Lists.{pick, bytes, joined, empty}
use Rattle.rules.specs.Texts.{Text, reads}
use Rattle.rules.specs.Sentences.{Node, Sentence, end_of, so_far}
use Rattle.rules.specs.Nodes.{word_of, phrase_of}
use Rattle.rules.specs.Keywords.{first_column, starts_row, starts_word, hash_and_digits, starts_phrase}
use Rattle.rules.specs.Phases.{Preamble, Phase, in_sentence, behind_sentence, hand, next, with_word, with_phrase}
use Rattle.rules.specs.GrammarNumbers.{sentence_range}
use Rattle.rules.specs.GrammarContent.{NodeContent}
use Rattle.rules.specs.GrammarSurvey.{node_read}
use Rattle.rules.specs.GrammarLines.{In}
use Rattle.rules.specs.GrammarTables.{TableLines}
use Rattle.rules.specs.GrammarNodes.{NodeLine, PhraseLine, WordFits, PhraseFits, node_says, words_from, words_say, phrase_says}
use Rattle.rules.specs.GrammarSentences.{SentenceLines, SentenceFits, numbers_of, nodes_of, secondary_edges, node_lines, sentence_lines}
use Rattle.rules.proofs.Takings.{go_word, go_phrase, refuse_six, answer_nodes}
use Rattle.rules.proofs.EachElement.{each_more}
use Rattle.rules.proofs.Elements.{map_append, maps_more}
use Rattle.rules.proofs.NoOthers.{no_others}
use Rattle.rules.proofs.SaidOfLists.{length_map, differ_map_more, or_both_ways}
use Rattle.rules.proofs.TestsAsFacts.{reads_are, numbers_of_nodes}
use Rattle.rules.proofs.KeywordsAsSaid.{first_starts, starts_first}
use Rattle.rules.proofs.HeadsAsSaid.{front_first}
use Rattle.rules.proofs.LineKinds.{WordStart, starts_word_lem, phrase_sign}
use Rattle.rules.proofs.WordsAndPhrases.{word_granted, phrase_granted}
use Rattle.rules.proofs.SentenceEnds.{end_granted, its_number, phrase_numbers, edges_both, words_count, given_before}
use Rattle.rules.proofs.WhatWasRead.{prior_lines, InSentence, joined_more, pre_lines}
use Rattle.rules.proofs.ReadSoFar.{Onward, keyword, row_first_given}
use Rattle.rules.proofs.LineByLine.{Through}

-- ---- one more of each

words_more : (k : ℕ) (ws : List NodeLine) (w : NodeLine) → words_from k (ws ++ (w ∷ [])) ≡ words_from k ws ++ (node_says (k + length ws) w.first w ∷ [])
words_more k [] w = rw add-zero
words_more k (v ∷ ws) w =
    ap (λ (ns : List NodeContent). node_says k v.first v ∷ ns)
    (words_more (suc k) ws w ∙ ap (λ (n : ℕ). words_from (suc k) ws ++ (node_says n w.first w ∷ [])) (let e : suc k + length ws ≡ k + suc (length ws) = omega arith in e))

words_length : (k : ℕ) (ws : List NodeLine) → length (words_from k ws) ≡ length ws
words_length k [] = refl
words_length k (w ∷ ws) = ap suc (words_length (suc k) ws)

-- a word more, whose number is the count of those in front of it
pub word_more : (ns : List Node) (ws : List NodeLine) (n : Node) (w : NodeLine) → map node_read ns ≡ words_say ws → node_read n ≡ node_says (length ns) w.first w
    → map node_read (ns ++ (n ∷ [])) ≡ words_say (ws ++ (w ∷ []))
word_more ns ws n w e q =
    let count : length ns ≡ 0 + length ws = sym (length_map node_read ns) ∙ ap length e ∙ words_length 0 ws ∙ (let z : length ws ≡ 0 + length ws = omega arith in z) in
    map_append node_read ns (n ∷ [])
    ∙ ap₂ (λ (xs : List NodeContent) (x : NodeContent). xs ++ (x ∷ [])) e (q ∙ ap (λ (k : ℕ). node_says k w.first w) count)
    ∙ sym (words_more 0 ws w)

pub nodes_more : (ps : List PhraseLine) (p : PhraseLine) → nodes_of (ps ++ (p ∷ [])) ≡ nodes_of ps ++ (p.node ∷ [])
nodes_more ps p = map_append (λ (p : PhraseLine). p.node) ps (p ∷ [])

pub edges_more : (ns : List NodeLine) (n : NodeLine) → length (secondary_edges (ns ++ (n ∷ []))) ≡ length (secondary_edges ns) + length n.secondary
edges_more ns n = ap length (joined_more (λ (n : NodeLine). n.secondary) ns n) ∙ length-append (secondary_edges ns) n.secondary

numbers_are : (ps : List PhraseLine) → ((n : ℕ) → 500 ≤ n → n < 500 + length ps → In n (numbers_of ps)) → (n : ℕ) → In n (numbers_of ps) ↔ ((500 ≤ n) × (n < 500 + length ps))
numbers_are ps all n =
    let count : length (numbers_of ps) ≡ length ps = length_map (λ (p : PhraseLine). p.number) ps in
    (λ i. let h = no_others (numbers_of ps) 500 (λ m l u. all m l (omega (arith, count))) n i in (h.0, omega (arith, h.1, count)), λ h. all n h.0 h.1)

no_phrases : (ns : List Node) (ps : List PhraseLine) → numbers_of_nodes ns ≡ numbers_of ps → empty ns ≡ true → ps ≡ []
no_phrases [] [] e h = refl
no_phrases [] (p ∷ ps) e h = absurd (let z : ◌≡◌ {A = ℕ} 0 1 = cc in omega arith)
no_phrases (n ∷ ns) ps e h = absurd (false≢true h)

word_lines : (a w x : List (List ℕ)) (l h : List ℕ) → x ≡ [] → (a ++ (h ∷ w ++ x)) ++ (l ∷ []) ≡ a ++ (h ∷ (w ++ (l ∷ [])) ++ x)
word_lines a w x l h e =
    ap (λ (x : List (List ℕ)). (a ++ (h ∷ w ++ x)) ++ (l ∷ [])) e
    ∙ ap (λ (ys : List (List ℕ)). (a ++ (h ∷ ys)) ++ (l ∷ [])) (append-nil w)
    ∙ append_assoc a (h ∷ w) (l ∷ [])
    ∙ ap (λ (ys : List (List ℕ)). a ++ (h ∷ ys)) (sym (append-nil (w ++ (l ∷ []))))
    ∙ ap (λ (x : List (List ℕ)). a ++ (h ∷ (w ++ (l ∷ [])) ++ x)) (sym e)

module _ (K : Phase → List Sentence → Type 0) (out : List Sentence) (done : List (List ℕ)) (line : Text) (p : Preamble) (s : Sentence) (r : InSentence p s out done) where
  abbrev tables : List TableLines
  tables = r.prior.pre.ts

  with_end : reads (bytes "#EOS") (first_column line) ≡ true → Through K out (next (λ n. hand p s) (end_of (so_far s) line)) → Onward K out done line
  with_end e g =
      let k = keyword K out done line (bytes "#EOS") (omega arith) e in
      let o = end_granted s r.head r.words r.phrases r.alike K out line (λ n. hand p s) k.1 g in
      let t : SentenceLines = record { head = r.head; words = r.words; phrases = r.phrases; eos = line.bytes } in
      let whole : SentenceFits sentence_range p.format tables t =
      record {
        begins = r.head_fits;
        each_word = r.each_word;
        each_phrase = r.each_phrase;
        words_at_most = r.words_at_most;
        edges_at_most = r.edges_at_most;
        ends = o.eos;
        numbered = record { differ = r.numbers_differ; no_gap = numbers_are r.phrases o.no_gap };
        parents_of_words = o.of_words;
        parents_of_phrases = o.of_phrases;
      } in
      record {
        phase = behind_sentence p;
        out_then = out ++ (s ∷ []);
        was_read =
            record {
              prior =
                  record {
                    pre = r.prior.pre;
                    ss = r.prior.ss ++ (t ∷ []);
                    each = each_more (SentenceFits sentence_range p.format tables) r.prior.ss t r.prior.each whole;
                    differ = differ_map_more (λ (s : SentenceLines). s.head.number) r.prior.ss t r.prior.differ r.new;
                    out_are =
                        maps_more (λ (s : Sentence). s.heading.number) (λ (t : SentenceLines). t.head.number) out r.prior.ss s t r.prior.out_are
                        (its_number s r.head r.words r.phrases r.alike);
                  };
              both = r.both;
              lines =
                  ap (λ (ls : List (List ℕ)). ls ++ (line.bytes ∷ [])) r.lines
                  ∙ append_assoc (prior_lines p out r.prior) (r.head.line ∷ node_lines r.words ++ node_lines (nodes_of r.phrases)) (line.bytes ∷ [])
                  ∙ append_assoc (pre_lines r.prior.pre.format_line tables) (joined (map sentence_lines r.prior.ss)) (sentence_lines t)
                  ∙ ap (λ (ls : List (List ℕ)). pre_lines r.prior.pre.format_line tables ++ ls) (sym (joined_more sentence_lines r.prior.ss t));
            };
        starts = k.0;
        kept = o.goes_on;
      }

  phrase_given : (xs : List ℕ) → hash_and_digits xs ≡ true → 1 ≤ length xs
  phrase_given [] e = absurd (false≢true e)
  phrase_given (x ∷ xs) e = omega arith

  with_phrase_lem : starts_phrase (first_column line) ≡ true → Through K out (next (go_phrase p s) (phrase_of p.format p.tables (so_far s) line)) → Onward K out done line
  with_phrase_lem e g =
      let a = r.alike in
      let starts = first_starts line (phrase_given (first_column line).bytes e) in
      let o = phrase_granted p.format p.tables tables r.prior.pre.stand K out line (so_far s) (go_phrase p s) g in
      let first : (first_column line).bytes ≡ o.phrase.node.first = starts_first line starts ∙ front_first line.bytes o.phrase.node.first _ o.front in
      let sign : o.phrase.node.first ≡ bytes "#" ++ drop 1 o.phrase.node.first = subst (λ (xs : List ℕ). xs ≡ bytes "#" ++ drop 1 xs) first (phrase_sign (first_column line).bytes e) in
      let more = nodes_more r.phrases o.phrase in
      let counted : length (secondary_edges (nodes_of (r.phrases ++ (o.phrase ∷ [])))) ≡ length (secondary_edges (nodes_of r.phrases)) + length o.phrase.node.secondary =
      ap (λ (ns : List NodeLine). length (secondary_edges ns)) more ∙ edges_more (nodes_of r.phrases) o.phrase.node in
      record {
        phase = in_sentence p (with_phrase s o.read_as);
        out_then = out;
        was_read =
            record {
              prior = r.prior;
              both = r.both;
              head = r.head;
              words = r.words;
              phrases = r.phrases ++ (o.phrase ∷ []);
              head_fits = r.head_fits;
              new = r.new;
              each_word = r.each_word;
              each_phrase = each_more (PhraseFits p.format tables) r.phrases o.phrase r.each_phrase (o.fit sign);
              words_at_most = r.words_at_most;
              edges_at_most = omega (arith, o.room, counted, edges_both s r.head r.words r.phrases a);
              numbers_differ =
                  differ_map_more (λ (p : PhraseLine). p.number) r.phrases o.phrase r.numbers_differ
                  (λ i. o.new ((given_before s r.head r.words r.phrases a o.phrase.number).1 i));
              alike =
                  record {
                    heading_is = a.heading_is;
                    words_are = a.words_are;
                    phrases_are = maps_more node_read phrase_says s.phrases r.phrases o.read_as o.phrase a.phrases_are o.same;
                  };
              lines =
                  ap (λ (ls : List (List ℕ)). ls ++ (line.bytes ∷ [])) r.lines
                  ∙ append_assoc (prior_lines p out r.prior) (r.head.line ∷ node_lines r.words ++ node_lines (nodes_of r.phrases)) (line.bytes ∷ [])
                  ∙ ap (λ (ls : List (List ℕ)). prior_lines p out r.prior ++ ls)
                  (append_assoc (r.head.line ∷ node_lines r.words) (node_lines (nodes_of r.phrases)) (line.bytes ∷ [])
                  ∙ ap (λ (l : List ℕ). r.head.line ∷ node_lines r.words ++ (node_lines (nodes_of r.phrases) ++ (l ∷ []))) (sym o.its_line)
                  ∙ ap (λ (ls : List (List ℕ)). r.head.line ∷ node_lines r.words ++ ls)
                  (sym (map_append (λ (n : NodeLine). n.line) (nodes_of r.phrases) (o.phrase.node ∷ [])) ∙ ap node_lines (sym more)));
            };
        starts = starts;
        kept = o.goes_on;
      }

  word_given : starts_word (first_column line) ≡ true → 1 ≤ length (first_column line).bytes
  word_given e = either ((or_both_ways (reads (bytes "#") (first_column line)) (starts_row (first_column line))).0 e)
    where
      either : (reads (bytes "#") (first_column line) ≡ true) ⊎ (starts_row (first_column line) ≡ true) → 1 ≤ length (first_column line).bytes
      either (inl h) = omega (arith, ap length ((reads_are (bytes "#") (first_column line)).0 h))
      either (inr h) = row_first_given K out done line h

  with_word_lem : starts_word (first_column line) ≡ true → Through K out (next (go_word p s) (word_of p.format p.tables (so_far s) line)) → Onward K out done line
  with_word_lem e g =
      let a = r.alike in
      let starts = first_starts line (word_given e) in
      let o = word_granted p.format p.tables tables r.prior.pre.stand K out line (so_far s) (go_word p s) g in
      let first : (first_column line).bytes ≡ o.node.first = starts_first line starts ∙ front_first line.bytes o.node.first _ o.front in
      let none_yet = no_phrases s.phrases r.phrases (phrase_numbers s r.head r.words r.phrases a) o.alone in
      record {
        phase = in_sentence p (with_word s o.read_as);
        out_then = out;
        was_read =
            record {
              prior = r.prior;
              both = r.both;
              head = r.head;
              words = r.words ++ (o.node ∷ []);
              phrases = r.phrases;
              head_fits = r.head_fits;
              new = r.new;
              each_word = each_more (WordFits p.format tables) r.words o.node r.each_word (o.fit (subst WordStart first (starts_word_lem (first_column line) e)));
              each_phrase = r.each_phrase;
              words_at_most = omega (arith, o.few, words_count s r.head r.words r.phrases a, length-append r.words (o.node ∷ []));
              edges_at_most = omega (arith, o.room, edges_more r.words o.node, edges_both s r.head r.words r.phrases a);
              numbers_differ = r.numbers_differ;
              alike =
                  record {
                    heading_is = a.heading_is;
                    words_are = word_more s.words r.words o.read_as o.node a.words_are o.same;
                    phrases_are = a.phrases_are;
                  };
              lines =
                  ap (λ (ls : List (List ℕ)). ls ++ (line.bytes ∷ [])) r.lines
                  ∙ word_lines (prior_lines p out r.prior) (node_lines r.words) (node_lines (nodes_of r.phrases)) line.bytes r.head.line (ap (λ (ps : List PhraseLine). node_lines (nodes_of ps)) none_yet)
                  ∙ ap (λ (ls : List (List ℕ)). prior_lines p out r.prior ++ (r.head.line ∷ ls ++ node_lines (nodes_of r.phrases)))
                  (ap (λ (l : List ℕ). node_lines r.words ++ (l ∷ [])) (sym o.its_line) ∙ sym (map_append (λ (n : NodeLine). n.line) r.words (o.node ∷ [])));
            };
        starts = starts;
        kept = o.goes_on;
      }

  pub from_sentence : Through K out (answer_nodes line (first_column line) p s) → Onward K out done line
  unfolding answer_nodes
  from_sentence g = by (reads (bytes "#EOS") (first_column line)) refl (starts_phrase (first_column line)) refl (starts_word (first_column line)) refl g
    where
      by : (t : Bool) → reads (bytes "#EOS") (first_column line) ≡ t → (u : Bool) → starts_phrase (first_column line) ≡ u → (v : Bool) → starts_word (first_column line) ≡ v
          → Through K out
          (pick t (next (λ n. hand p s) (end_of (so_far s) line))
          (pick u (next (go_phrase p s) (phrase_of p.format p.tables (so_far s) line))
          (pick v (next (go_word p s) (word_of p.format p.tables (so_far s) line)) (refuse_six line))))
          → Onward K out done line
      by true e u f v w g = with_end e g
      by false e true f v w g = with_phrase_lem f g
      by false e false f true w g = with_word_lem w g
      by false e false f false w g = absurd g
