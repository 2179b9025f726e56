-- A sentence as read and as said: its #EOS is granted exactly if the number is the sentence's, its phrases have no gap and
-- each parent is a phrase of the sentence. Node by node.
use Prim.Native.Nat.{ℕ, zero, suc, ◌+◌, ◌≤◌, ◌<◌}
use native.Mathlib.Omega.{arith}
use mathlib.Core.Path.{◌≡◌, refl, sym, ap, ap₂, ◌∙◌, subst}
use mathlib.Core.Logic.{◌⊎◌, inl, inr, ◌↔◌}
use mathlib.Core.Bool.{Bool, true, false, ◌||◌}
use Rattle.std.specs.Prelude.{Some}
use mathlib.Core.List.{List, [], ◌∷◌, ◌++◌, map}
use lib.ListN.{length, length-append}
use lib.Dec.{eqb}
use borrow.Author.Tests.{eqb-true, eqb-false, eq-eqb}
use Rattle.rules.specs.Lists.{bytes, every, counting, Each}
use Rattle.rules.specs.Texts.{Text}
use Rattle.rules.specs.Columns.{columns, written}
use Rattle.rules.specs.Numbers.{sentence_number, number, value}
use Rattle.rules.specs.Sentences.{Edge, Node, Sentence, edge_count, edges_of, listed, parented, end_rules, so_far, end_of}
use Rattle.rules.specs.Phases.{Phase, Answer, next}
use Rattle.rules.specs.GrammarLines.{In}
use Rattle.rules.proofs.EachElement.{each_then, each_map, each_mapped, each_joined, each_front, each_back}
use Rattle.rules.proofs.Elements.{map_map}
use Rattle.rules.proofs.NumeralsAsSaid.{number_said}
use Rattle.rules.proofs.ColumnsSaid.{columns_said}
use Rattle.rules.proofs.BareColumns.{column_at}
use Rattle.rules.specs.GrammarNumbers.{sentence_range}
use Rattle.rules.specs.GrammarContent.{EdgeContent, NodeContent, HeadContent}
use Rattle.rules.specs.GrammarSurvey.{edge_read, node_read, head_read}
use Rattle.rules.specs.GrammarNodes.{EdgeSaid, NodeLine, PhraseLine, edge_says, node_says, words_from, words_say, phrase_says}
use Rattle.rules.specs.GrammarSentences.{HeadLine, EosFits, numbers_of, nodes_of, secondary_edges, ParentsThere, head_says}
use Rattle.rules.proofs.SaidOfLists.{length_map, and_both_ways, or_both_ways, every_each, each_every}
use Rattle.rules.proofs.TestsAsFacts.{good_some, some_good, some_value, is_listed, numbers_of_nodes}
use Rattle.rules.proofs.KeywordsAsSaid.{two_columns, columns_two, name_second}
use Rattle.rules.proofs.NodeColumns.{Side, side_of, side_said}
use Rattle.rules.proofs.LineByLine.{Through, through_held, held_through}

-- ---- secondary edges counted

abbrev total : List Side → ℕ
total [] = 0
total (s ∷ ss) = length s.others + total ss

edges_read : (ns : List Node) → edge_count ns ≡ total (map side_of ns)
edges_read [] = refl
edges_read (n ∷ ns) = omega (arith, edges_read ns, length_map (λ (e : Edge). e.parent) n.secondary)

edges_said : (ns : List NodeLine) → length (secondary_edges ns) ≡ total (map side_said ns)
edges_said [] = refl
edges_said (n ∷ ns) =
    omega (arith, edges_said ns, length_map (λ (e : EdgeSaid). e.parent) n.secondary, length-append n.secondary (secondary_edges ns))

pub edges_alike : (ns : List Node) (said : List NodeLine) → map side_of ns ≡ map side_said said → edge_count ns ≡ length (secondary_edges said)
edges_alike ns said e = edges_read ns ∙ ap total e ∙ sym (edges_said said)

-- ---- no gap

pub every_counted : (f : ℕ → Bool) (a k : ℕ) → every f (counting a k) ≡ true → (n : ℕ) → a ≤ n → n < a + k → f n ≡ true
every_counted f a zero e n h l = absurd (omega arith)
every_counted f a (suc k) e n h l =
    let b = (and_both_ways (f a) (every f (counting (suc a) k))).0 e in
    by (eqb n a) refl b.0 (every_counted f (suc a) k b.1)
  where
    by : (t : Bool) → eqb n a ≡ t → f a ≡ true → ((n : ℕ) → suc a ≤ n → n < suc a + k → f n ≡ true) → f n ≡ true
    by true q e more = ap f (eqb-true n a q) ∙ e
    by false q e more = more n (omega (arith, eqb-false n a q)) (omega arith)

pub counted_every : (f : ℕ → Bool) (a k : ℕ) → ((n : ℕ) → a ≤ n → n < a + k → f n ≡ true) → every f (counting a k) ≡ true
counted_every f a zero h = refl
counted_every f a (suc k) h =
    (and_both_ways (f a) (every f (counting (suc a) k))).1 (h a (omega arith) (omega arith), counted_every f (suc a) k (λ n l u. h n (omega arith) (omega arith)))

-- ---- parents that are there

abbrev SideThere : List ℕ → Side → Type 0
SideThere ns s = ((s.parent ≡ 0) ⊎ In s.parent ns) × Each (λ (q : ℕ). In q ns) s.others

module _ (ps : List Node) where
  parented_there : (n : Node) → parented ps n ≡ true → SideThere (numbers_of_nodes ps) (side_of n)
  parented_there n h =
      let b = (and_both_ways (eqb n.parent 0 || listed ps n.parent) (every (λ (e : Edge). listed ps e.parent) n.secondary)).0 h in (
        either ((or_both_ways (eqb n.parent 0) (listed ps n.parent)).0 b.0),
        each_map (λ (e : Edge). e.parent) (λ (q : ℕ). In q (numbers_of_nodes ps)) n.secondary
            (each_then (λ (e : Edge). listed ps e.parent ≡ true) (λ (e : Edge). In e.parent (numbers_of_nodes ps)) (λ e k. (is_listed ps e.parent).0 k)
            n.secondary (every_each (λ (e : Edge). listed ps e.parent) n.secondary b.1)),
      )
    where
      either : (eqb n.parent 0 ≡ true) ⊎ (listed ps n.parent ≡ true) → (n.parent ≡ 0) ⊎ In n.parent (numbers_of_nodes ps)
      either (inl e) = inl (eqb-true n.parent 0 e)
      either (inr e) = inr ((is_listed ps n.parent).0 e)

  there_parented : (n : Node) → SideThere (numbers_of_nodes ps) (side_of n) → parented ps n ≡ true
  there_parented n h =
      (and_both_ways (eqb n.parent 0 || listed ps n.parent) (every (λ (e : Edge). listed ps e.parent) n.secondary)).1 (
        (or_both_ways (eqb n.parent 0) (listed ps n.parent)).1 (either h.0),
        each_every (λ (e : Edge). listed ps e.parent) n.secondary
            (each_then (λ (e : Edge). In e.parent (numbers_of_nodes ps)) (λ (e : Edge). listed ps e.parent ≡ true) (λ e k. (is_listed ps e.parent).1 k)
            n.secondary (each_mapped (λ (e : Edge). e.parent) (λ (q : ℕ). In q (numbers_of_nodes ps)) n.secondary h.1)),
      )
    where
      either : (n.parent ≡ 0) ⊎ In n.parent (numbers_of_nodes ps) → (eqb n.parent 0 ≡ true) ⊎ (listed ps n.parent ≡ true)
      either (inl e) = inl (eq-eqb n.parent 0 e)
      either (inr e) = inr ((is_listed ps n.parent).1 e)

  module _ (phrases : List PhraseLine) (same_numbers : numbers_of_nodes ps ≡ numbers_of phrases) where
    pub parents_said : (ns : List Node) (said : List NodeLine) → map side_of ns ≡ map side_said said → every (parented ps) ns ≡ true → Each (ParentsThere phrases) said
    parents_said ns said e h =
        each_then (λ (n : NodeLine). SideThere (numbers_of phrases) (side_said n)) (ParentsThere phrases)
        (λ n k. record { parent = k.0; secondary = each_mapped (λ (e : EdgeSaid). e.parent) (λ (q : ℕ). In q (numbers_of phrases)) n.secondary k.1 }) said
        (each_mapped side_said (SideThere (numbers_of phrases)) said
        (subst (λ (ss : List Side). Each (SideThere (numbers_of phrases)) ss) e
        (subst (λ (ns' : List ℕ). Each (SideThere ns') (map side_of ns)) same_numbers
        (each_map side_of (SideThere (numbers_of_nodes ps)) ns
        (each_then (λ (n : Node). parented ps n ≡ true) (λ (n : Node). SideThere (numbers_of_nodes ps) (side_of n)) parented_there ns (every_each (parented ps) ns h))))))

    pub said_parents : (ns : List Node) (said : List NodeLine) → map side_of ns ≡ map side_said said → Each (ParentsThere phrases) said → every (parented ps) ns ≡ true
    said_parents ns said e h =
        each_every (parented ps) ns
        (each_then (λ (n : Node). SideThere (numbers_of_nodes ps) (side_of n)) (λ (n : Node). parented ps n ≡ true) there_parented ns
        (each_mapped side_of (SideThere (numbers_of_nodes ps)) ns
        (subst (λ (ns' : List ℕ). Each (SideThere ns') (map side_of ns)) (sym same_numbers)
        (subst (λ (ss : List Side). Each (SideThere (numbers_of phrases)) ss) (sym e)
        (each_map side_said (SideThere (numbers_of phrases)) said
        (each_then (ParentsThere phrases) (λ (n : NodeLine). SideThere (numbers_of phrases) (side_said n))
        (λ n k. (k.parent, each_map (λ (e : EdgeSaid). e.parent) (λ (q : ℕ). In q (numbers_of phrases)) n.secondary k.secondary)) said h))))))

-- ---- a sentence as read, and as said

pub record SentenceAlike (s : Sentence) (head : HeadLine) (words : List NodeLine) (phrases : List PhraseLine) : Type 0 where
  pub heading_is : head_read s.heading ≡ head_says head
  pub words_are : map node_read s.words ≡ words_say words
  pub phrases_are : map node_read s.phrases ≡ map phrase_says phrases

abbrev side_in : NodeContent → Side
side_in n = record { parent = n.parent; others = map (λ (e : EdgeContent). e.parent) n.secondary }

side_read : (n : Node) → side_in (node_read n) ≡ side_of n
side_read n = ap (λ (ps : List ℕ). record { parent = n.parent; others = ps }) (map_map (λ (e : EdgeContent). e.parent) edge_read n.secondary)

side_says : (k : ℕ) (word : List ℕ) (n : NodeLine) → side_in (node_says k word n) ≡ side_said n
side_says k word n = ap (λ (ps : List ℕ). record { parent = n.parent; others = ps }) (map_map (λ (e : EdgeContent). e.parent) edge_says n.secondary)

sides_read : (ns : List Node) → map side_in (map node_read ns) ≡ map side_of ns
sides_read [] = refl
sides_read (n ∷ ns) = ap₂ (λ (s : Side) (ss : List Side). s ∷ ss) (side_read n) (sides_read ns)

sides_words : (k : ℕ) (ns : List NodeLine) → map side_in (words_from k ns) ≡ map side_said ns
sides_words k [] = refl
sides_words k (n ∷ ns) = ap₂ (λ (s : Side) (ss : List Side). s ∷ ss) (side_says k n.first n) (sides_words (suc k) ns)

sides_phrases : (ps : List PhraseLine) → map side_in (map phrase_says ps) ≡ map side_said (nodes_of ps)
sides_phrases [] = refl
sides_phrases (p ∷ ps) = ap₂ (λ (s : Side) (ss : List Side). s ∷ ss) (side_says p.number [] p.node) (sides_phrases ps)

module _ (s : Sentence) (head : HeadLine) (words : List NodeLine) (phrases : List PhraseLine) (a : SentenceAlike s head words phrases) where
  pub its_number : s.heading.number ≡ head.number
  its_number = ap (λ (h : HeadContent). h.number) a.heading_is

  word_sides : map side_of s.words ≡ map side_said words
  word_sides = sym (sides_read s.words) ∙ ap (map side_in) a.words_are ∙ sides_words 0 words

  phrase_sides : map side_of s.phrases ≡ map side_said (nodes_of phrases)
  phrase_sides = sym (sides_read s.phrases) ∙ ap (map side_in) a.phrases_are ∙ sides_phrases phrases

  pub phrase_numbers : numbers_of_nodes s.phrases ≡ numbers_of phrases
  phrase_numbers =
      sym (map_map (λ (n : NodeContent). n.number) node_read s.phrases) ∙ ap (map (λ (n : NodeContent). n.number)) a.phrases_are
      ∙ map_map (λ (n : NodeContent). n.number) phrase_says phrases

  pub edges_both : edges_of s ≡ length (secondary_edges words) + length (secondary_edges (nodes_of phrases))
  edges_both = omega (arith, edges_alike s.words words word_sides, edges_alike s.phrases (nodes_of phrases) phrase_sides)

  pub words_count : length s.words ≡ length words
  words_count = sym (length_map side_of s.words) ∙ ap length word_sides ∙ length_map side_said words

  phrases_count : length s.phrases ≡ length phrases
  phrases_count = sym (length_map (λ (n : Node). n.number) s.phrases) ∙ ap length phrase_numbers ∙ length_map (λ (p : PhraseLine). p.number) phrases

  pub given_before : (n : ℕ) → (listed s.phrases n ≡ true) ↔ In n (numbers_of phrases)
  given_before n = rw phrase_numbers at (is_listed s.phrases n)

  abbrev NoGap : Type 0
  NoGap = (n : ℕ) → 500 ≤ n → n < 500 + length phrases → In n (numbers_of phrases)

  module _ (K : Phase → List Sentence → Type 0) (out : List Sentence) (line : Text) (f : ℕ → Answer) where
    pub record Ended : Type 0 where
      pub eos : EosFits sentence_range head.number line.bytes
      pub no_gap : NoGap
      pub of_words : Each (ParentsThere phrases) words
      pub of_phrases : Each (ParentsThere phrases) (nodes_of phrases)
      pub goes_on : Through K out (f s.heading.number)

    pub end_granted : column_at 0 line.bytes ≡ bytes "#EOS" → Through K out (next f (end_of (so_far s) line)) → Ended
    unfolding end_of end_rules
    end_granted q g =
        let h = through_held K out f _ _ g in
        let o = number sentence_number (written (columns line) 1).bytes in
        let all = h.0.1.1.1.1.0 in
        let both = every_each (parented s.phrases) (s.words ++ s.phrases) all in
        let P : Node → Type 0 = λ (n : Node). parented s.phrases n ≡ true in
        record {
          eos =
              record {
                number_text = (written (columns line) 1).bytes;
                columns = columns_said line.bytes (bytes "#EOS" ∷ (written (columns line) 1).bytes ∷ []) (two_columns line h.0.0 ∙ ap (λ (x : List ℕ). x ∷ (written (columns line) 1).bytes ∷ []) q);
                number_written = (number_said sentence_number (written (columns line) 1).bytes head.number).0 (good_some o h.0.1.0 ∙ ap Some (eqb-true (value o) s.heading.number h.0.1.1.0 ∙ its_number));
              };
          no_gap = λ n l u. (given_before n).0 (every_counted (listed s.phrases) 500 (length s.phrases) h.0.1.1.1.0 n l (omega (arith, phrases_count)));
          of_words = parents_said s.phrases phrases phrase_numbers s.words words word_sides (each_every (parented s.phrases) s.words (each_front P s.words s.phrases both));
          of_phrases = parents_said s.phrases phrases phrase_numbers s.phrases (nodes_of phrases) phrase_sides (each_every (parented s.phrases) s.phrases (each_back P s.words s.phrases both));
          goes_on = h.1;
        }

    pub end_grants : EosFits sentence_range head.number line.bytes → NoGap → Each (ParentsThere phrases) words → Each (ParentsThere phrases) (nodes_of phrases) → Through K out (f s.heading.number) → Through K out (next f (end_of (so_far s) line))
    unfolding end_of end_rules
    end_grants t no_gap of_words of_phrases goes_on =
        let o = number sentence_number (written (columns line) 1).bytes in
        let is : o ≡ Some head.number = ap (number sentence_number) (name_second line (bytes "#EOS") t.number_text t.columns) ∙ (number_said sentence_number t.number_text head.number).1 t.number_written in
        let P : Node → Type 0 = λ (n : Node). parented s.phrases n ≡ true in
        held_through K out f _ _ (
          eq-eqb (length (columns line)) 2 (columns_two line (bytes "#EOS") t.number_text t.columns),
          (
            some_good o head.number is,
            (
              eq-eqb (value o) s.heading.number (some_value o head.number is ∙ sym its_number),
              (
                counted_every (listed s.phrases) 500 (length s.phrases) (λ n l u. (given_before n).1 (no_gap n l (omega (arith, phrases_count)))),
                (
                  each_every (parented s.phrases) (s.words ++ s.phrases)
                      (each_joined P s.words s.phrases
                      (every_each (parented s.phrases) s.words (said_parents s.phrases phrases phrase_numbers s.words words word_sides of_words))
                      (every_each (parented s.phrases) s.phrases (said_parents s.phrases phrases phrase_numbers s.phrases (nodes_of phrases) phrase_sides of_phrases))),
                  tt,
                ),
              ),
            ),
          ),
        )
        goes_on
