-- The tidy text of the sentences handed out has as many bytes as were taken for them. Node by node; the order of phrases and of
-- sentences doesn't count, nor do places.
use Prim.Native.Nat.{ℕ}
use native.Mathlib.Omega.{arith}
use mathlib.Core.Path.{◌≡◌, refl, ap, ◌∙◌}
use mathlib.Core.List.{List, [], ◌∷◌, ◌++◌, map}
use lib.ListN.{length, length-append}
use Rattle.rules.specs.Lists.{bytes, joined, sorted}
use Rattle.rules.specs.Sentences.{Node, Sentence}
use Rattle.rules.specs.Reading.{Handed}
use Rattle.rules.specs.Meaning.{bare_edge, bare_node, node_number, sentence_number_of, meant_sentence, meant_sentences}
use Rattle.rules.specs.Tidy.{digits_of, tabbed_line, keyword_line, commented, node_name, edge_columns, node_line, heading_line, sentence_text}
use Rattle.rules.proofs.Elements.{map_map}
use Rattle.rules.proofs.Sorting.{total, total_sorted}
use Rattle.tidy_length.proofs.TakenRoom.{total_map, joined_length, number_handed, nodes_room, sentence_room, handed_room}

total_same : {A : Type 0} (key f g : A → ℕ) → ((x : A) → f x ≡ g x) → (xs : List A) → total key f xs ≡ total key g xs
total_same key f g e [] = refl
total_same key f g e (x ∷ xs) = omega (arith, e x, total_same key f g e xs)

bare_line : (n : Node) → node_line (bare_node n) ≡ node_line n
bare_line n =
    ap (λ (es : List (List (List ℕ))). tabbed_line (node_name n ∷ n.tag.bytes ∷ n.morphology.bytes ∷ n.edge.bytes ∷ digits_of n.parent ∷ joined es ++ commented n.comment))
    (map_map edge_columns bare_edge n.secondary)

nodes_printed : (ns : List Node) → length (joined (map node_line (map bare_node ns))) ≡ nodes_room ns
nodes_printed ns =
    joined_length node_number node_line (map bare_node ns) ∙ total_map node_number (λ (n : Node). length (node_line n)) node_number bare_node ns
    ∙ total_same node_number (λ (n : Node). length (node_line (bare_node n))) (λ (n : Node). length (node_line n)) (λ n. ap length (bare_line n)) ns

sentence_printed : (s : Sentence) → length (sentence_text (meant_sentence s)) ≡ sentence_room s
sentence_printed s =
    let head = heading_line s in
    let words = joined (map node_line (map bare_node s.words)) in
    let phrases = joined (map node_line (map bare_node (sorted node_number s.phrases))) in
    let end = keyword_line (bytes "#EOS" ∷ digits_of s.heading.number ∷ []) in
    let text : length (sentence_text (meant_sentence s)) ≡ length (((head ++ words) ++ phrases) ++ end) = refl in
    omega (
      arith,
      length-append ((head ++ words) ++ phrases) end,
      length-append (head ++ words) phrases,
      length-append head words,
      nodes_printed s.words,
      nodes_printed (sorted node_number s.phrases),
      total_sorted node_number (λ (n : Node). length (node_line n)) s.phrases,
    )

pub sentences_room : (hs : List Handed) → length (joined (map sentence_text (meant_sentences hs))) ≡ handed_room hs
sentences_room hs =
    let meant : Handed → Sentence = λ (h : Handed). meant_sentence h.sentence in
    let printed : Sentence → ℕ = λ (s : Sentence). length (sentence_text s) in
    joined_length sentence_number_of sentence_text (meant_sentences hs) ∙ total_sorted sentence_number_of printed (map meant hs) ∙ total_map sentence_number_of printed number_handed meant hs
    ∙ total_same number_handed (λ (h : Handed). printed (meant h)) (λ (h : Handed). sentence_room h.sentence) (λ h. sentence_printed h.sentence) hs
