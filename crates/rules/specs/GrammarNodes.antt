-- What a word's or a phrase's line is. Document 01, "The file from top to bottom": word, part of speech, morphology, edge,
-- parent, then any number of pairs of secondary label and secondary parent; # with its number at once after it.
use Rattle.std.specs.Prelude.{ℕ, suc, ◌≤◌, ◌<◌, ◌≡◌, ◌⊎◌, List, [], ◌∷◌, ◌++◌, map, length}
use Rattle.rules.specs.Lists.{bytes, joined, Each}
use Rattle.rules.specs.GrammarNumbers.{NumberIn, phrase_range, ParentWritten, tag_bytes}
use Rattle.rules.specs.GrammarNames.{no_tag, of_wordtag, of_morphtag, of_nodetag, of_edgetag, of_secedgetag}
use Rattle.rules.specs.GrammarContent.{EdgeContent, NodeContent}
use Rattle.rules.specs.GrammarColumns.{Front}
use Rattle.rules.specs.GrammarTables.{TableLines, Known}

-- a secondary edge: its label, and its parent as written and as a number
pub record EdgeSaid : Type 0 where
  pub label : List ℕ
  pub parent_text : List ℕ
  pub parent : ℕ

-- a word's or phrase's line and what it says; a word's number is not written
pub record NodeLine : Type 0 where
  pub line : List ℕ
  pub first : List ℕ
  pub tag : List ℕ
  pub morphology : List ℕ
  pub edge : List ℕ
  pub parent_text : List ℕ
  pub parent : ℕ
  pub secondary : List EdgeSaid
  pub comment : List ℕ

abbrev pub pair_columns : EdgeSaid → List (List ℕ)
pair_columns e = e.label ∷ e.parent_text ∷ []

abbrev pub node_columns : ℕ → NodeLine → List (List ℕ)
node_columns format n =
    n.first ∷ n.tag ∷ n.morphology ∷ n.edge ∷ n.parent_text ∷ joined (map pair_columns n.secondary)

-- a secondary edge, whose label has at most 10 bytes and is known
pub record EdgeFits (ts : List TableLines) (e : EdgeSaid) : Type 0 where
  pub parent_written : NumberIn phrase_range e.parent_text e.parent
  pub label_short : length e.label ≤ tag_bytes of_secedgetag
  pub label_known : Known ts of_secedgetag e.label

-- what words and phrases have in common; tags is the table of the node's own tag
pub record NodeFits (format : ℕ) (ts : List TableLines) (tags : ℕ) (n : NodeLine) : Type 0 where
  pub columns : Front n.line (node_columns format n) n.comment
  pub parent_written : ParentWritten n.parent_text n.parent
  pub parent_zero : n.parent ≡ 0 → n.edge ≡ no_tag
  pub tag_short : length n.tag ≤ tag_bytes tags
  pub tag_known : Known ts tags n.tag
  pub morphology_short : length n.morphology ≤ tag_bytes of_morphtag
  pub morphology_known : Known ts of_morphtag n.morphology
  pub edge_short : length n.edge ≤ tag_bytes of_edgetag
  pub edge_known : Known ts of_edgetag n.edge
  pub each_secondary : Each (EdgeFits ts) n.secondary

-- a word may be a lone #, but doesn't start with # otherwise
pub record WordFits (format : ℕ) (ts : List TableLines) (n : NodeLine) : Type 0 where
  pub node : NodeFits format ts of_wordtag n
  pub word : (n.first ≡ bytes "#") ⊎ ((rest : List ℕ) → n.first ≡ bytes "#" ++ rest → ⊥)

-- a phrase's line, and its number
pub record PhraseLine : Type 0 where
  pub node : NodeLine
  pub number : ℕ

-- # with its number, 500 to 999, at once after it; its parent, unless 0, is larger than its own number, and each of its
-- secondary parents is another phrase (document 02, request 1)
pub record PhraseFits (format : ℕ) (ts : List TableLines) (p : PhraseLine) : Type 0 where
  pub node : NodeFits format ts of_nodetag p.node
  pub digits : List ℕ
  pub sign : p.node.first ≡ bytes "#" ++ digits
  pub number_written : NumberIn phrase_range digits p.number
  pub parent_larger : (p.node.parent ≡ 0) ⊎ (p.number < p.node.parent)
  pub secondary_others : Each (λ (e : EdgeSaid). e.parent ≡ p.number → ⊥) p.node.secondary

-- ---- what they say

abbrev pub edge_says : EdgeSaid → EdgeContent
edge_says e = record { label = e.label; parent = e.parent }

-- of the node of a number
abbrev pub node_says : ℕ → List ℕ → NodeLine → NodeContent
node_says its_number word n =
    record {
      number = its_number;
      word = word;
      tag = n.tag;
      morphology = n.morphology;
      edge = n.edge;
      parent = n.parent;
      secondary = map edge_says n.secondary;
      comment = n.comment;
    }

-- words count from 0
abbrev pub words_from : ℕ → List NodeLine → List NodeContent
words_from k [] = []
words_from k (n ∷ ns) = node_says k n.first n ∷ words_from (suc k) ns

abbrev pub words_say : List NodeLine → List NodeContent
words_say ns = words_from 0 ns

abbrev pub phrase_says : PhraseLine → NodeContent
phrase_says p = node_says p.number [] p.node
