-- Rows, edges, nodes and sentences are the same, field by field, exactly if they are equal without their places, and with
-- the phrases of a sentence by number.
use mathlib.Core.Path.{◌≡◌, refl, ap}
use mathlib.Core.Logic.{◌↔◌}
use mathlib.Core.List.{List, map}
use Rattle.rules.specs.Lists.{sorted, Each}
use Rattle.rules.specs.Tables.{Row}
use Rattle.rules.specs.Sentences.{Edge, Node, Sentence}
use Rattle.rules.specs.Meaning.{bare_row, bare_edge, bare_node, node_number, meant_sentence}
use Rattle.rules.specs.Same.{InOrder, InAnyOrder, SameRow, SameEdge, SameNode, SameSentence}
use Rattle.rules.proofs.EachElement.{each_of}
use Rattle.rules.proofs.Sorting.{Distinct}
use Rattle.rules.proofs.AlikeLists.{alike_in_order, alike_in_any_order}

-- no more is asked of an element
abbrev pub Any : {A : Type 0} → A → Type 0
Any x = Unit

pub each_any : {A : Type 0} (xs : List A) → Each Any xs
each_any xs = each_of Any (λ x. tt) xs

-- ---- rows

row_bare : (r q : Row) → SameRow r q → bare_row r ≡ bare_row q
row_bare r q s = cc

bare_row_lem : (r q : Row) → bare_row r ≡ bare_row q → SameRow r q
bare_row_lem r q e =
    record {
      id1 = ap (λ (x : Row). x.id1) e;
      first = ap (λ (x : Row). x.first.bytes) e;
      second = ap (λ (x : Row). x.second.bytes) e;
      flag = ap (λ (x : Row). x.flag) e;
    }

pub same_row : (r q : Row) → Any r → Any q → (bare_row r ≡ bare_row q) ↔ SameRow r q
same_row r q a b = (bare_row_lem r q, row_bare r q)

-- ---- nodes

edge_bare : (e d : Edge) → SameEdge e d → bare_edge e ≡ bare_edge d
edge_bare e d s = cc

bare_edge_lem : (e d : Edge) → bare_edge e ≡ bare_edge d → SameEdge e d
bare_edge_lem e d q = record { label = ap (λ (x : Edge). x.label.bytes) q; parent = ap (λ (x : Edge). x.parent) q }

pub same_edges : (es ds : List Edge) → (map bare_edge es ≡ map bare_edge ds) ↔ InOrder SameEdge es ds
same_edges es ds = alike_in_order bare_edge Any SameEdge (λ e d a b. (bare_edge_lem e d, edge_bare e d)) es ds (each_any es) (each_any ds)

node_bare : (n m : Node) → SameNode n m → bare_node n ≡ bare_node m
node_bare n m s = cc ((same_edges n.secondary m.secondary).1 s.secondary)

bare_node_lem : (n m : Node) → bare_node n ≡ bare_node m → SameNode n m
bare_node_lem n m e =
    record {
      number = ap (λ (x : Node). x.number) e;
      word = ap (λ (x : Node). x.word.bytes) e;
      tag = ap (λ (x : Node). x.tag.bytes) e;
      morphology = ap (λ (x : Node). x.morphology.bytes) e;
      edge = ap (λ (x : Node). x.edge.bytes) e;
      parent = ap (λ (x : Node). x.parent) e;
      secondary = (same_edges n.secondary m.secondary).0 (ap (λ (x : Node). x.secondary) e);
      comment = ap (λ (x : Node). x.comment.bytes) e;
    }

same_node : (n m : Node) → Any n → Any m → (bare_node n ≡ bare_node m) ↔ SameNode n m
same_node n m a b = (bare_node_lem n m, node_bare n m)

-- ---- sentences whose phrases' numbers differ

abbrev pub PhrasesDiffer : Sentence → Type 0
PhrasesDiffer s = Distinct node_number s.phrases

module _ (s t : Sentence) (d : PhrasesDiffer s) (c : PhrasesDiffer t) where
  same_words : (map bare_node s.words ≡ map bare_node t.words) ↔ InOrder SameNode s.words t.words
  same_words = alike_in_order bare_node Any SameNode same_node s.words t.words (each_any s.words) (each_any t.words)

  same_phrases : (map bare_node (sorted node_number s.phrases) ≡ map bare_node (sorted node_number t.phrases)) ↔ InAnyOrder SameNode s.phrases t.phrases
  same_phrases =
      alike_in_any_order bare_node Any SameNode same_node node_number node_number (λ n. refl) s.phrases t.phrases (each_any s.phrases) (each_any t.phrases) d c

  sentence_bare : SameSentence s t → meant_sentence s ≡ meant_sentence t
  sentence_bare e = cc (same_words.1 e.words, same_phrases.1 e.phrases)

  bare_sentence : meant_sentence s ≡ meant_sentence t → SameSentence s t
  bare_sentence e =
      record {
        number = ap (λ (x : Sentence). x.heading.number) e;
        editor1 = ap (λ (x : Sentence). x.heading.editor1) e;
        date = ap (λ (x : Sentence). x.heading.date) e;
        origin = ap (λ (x : Sentence). x.heading.origin) e;
        comment = ap (λ (x : Sentence). x.heading.comment.bytes) e;
        words = same_words.0 (ap (λ (x : Sentence). x.words) e);
        phrases = same_phrases.0 (ap (λ (x : Sentence). x.phrases) e);
      }

  pub same_sentence : (meant_sentence s ≡ meant_sentence t) ↔ SameSentence s t
  same_sentence = (bare_sentence, sentence_bare)
