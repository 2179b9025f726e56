-- Document 01, "The file from top to bottom", and document 02, request 1: words, phrases and their secondary edges, line by
-- line.
use Rattle.std.specs.Prelude.{ℕ, suc, ◌+◌, Bool, not, ◌&&◌, length, drop, leb, ltb, eqb, Option}
use mathlib.Core.List.{List, ◌∷◌, ◌++◌, map}
use Rattle.rules.specs.Lists.{pick}
use Rattle.rules.specs.Texts.{Text, no_text, reads, at_most, behind_hash}
use Rattle.rules.specs.Columns.{columns, text, fields, comment}
use Rattle.rules.specs.Numbers.{word_limit, edge_limit, phrase_number, number, parent_number, good, value}
use Rattle.rules.specs.Rules.{Rule, rule, Verdict, checked}
use Rattle.rules.specs.Tables.{Tables, word_tags, morph_tags, node_tags, edge_tags, sec_edge_tags, dashes, known, tag_limit}
use Rattle.rules.specs.Sentences.{Node, SoFar}
use Rattle.rules.specs.Pairs.{Pair, pairs, paired, secondary_parent, as_edge, is_another}

-- the places of the fields in the lines of a format, behind the word, or behind # and its number
abbrev pub tag_field : ℕ → ℕ
tag_field format = 1

abbrev pub morphology_field : ℕ → ℕ
morphology_field format = suc (tag_field format)

abbrev pub edge_field : ℕ → ℕ
edge_field format = suc (morphology_field format)

abbrev pub parent_field : ℕ → ℕ
parent_field format = suc (edge_field format)

abbrev pub pairs_field : ℕ → ℕ
pairs_field format = suc (parent_field format)

module _ (format : ℕ) (fs : List Text) where
  abbrev pub its_tag : Text
  its_tag = text fs (tag_field format)

  abbrev pub its_morphology : Text
  its_morphology = text fs (morphology_field format)

  abbrev pub its_edge : Text
  its_edge = text fs (edge_field format)

  abbrev pub its_parent : Option ℕ
  its_parent = parent_number (text fs (parent_field format)).bytes

  abbrev pub its_pairs : List Pair
  its_pairs = pairs (drop (pairs_field format) fs)

  abbrev pub node_of : ℕ → Text → Text → Node
  node_of its_number word its_comment =
      record {
        number = its_number;
        word = word;
        tag = its_tag;
        morphology = its_morphology;
        edge = its_edge;
        parent = value its_parent;
        secondary = map as_edge its_pairs;
        comment = its_comment;
      }

  -- 7: no column is missing, no label is without its parent
  abbrev pub shaped : Bool
  shaped = leb (pairs_field format) (length fs) && paired (drop (pairs_field format) fs)

  -- 8: a parent is 0 or 500 to 999; a secondary parent is 500 to 999
  unfoldable pub parents_written : List Rule
  unfolding pairs
  parents_written =
      rule 8 (text fs (parent_field format)) (good its_parent) ∷ map (λ (p : Pair). rule 8 p.parent (good (secondary_parent p))) its_pairs

  -- 10: length limits hold without a table too
  unfoldable pub tags_short : ℕ → List Rule
  unfolding pairs
  tags_short tags =
      rule 10 its_tag (at_most (tag_limit tags) its_tag)
      ∷ rule 10 its_morphology (at_most (tag_limit morph_tags) its_morphology)
      ∷ rule 10 its_edge (at_most (tag_limit edge_tags) its_edge)
      ∷ map (λ (p : Pair). rule 10 p.label (at_most (tag_limit sec_edge_tags) p.label)) its_pairs

  -- 18: each tag stands in its table
  unfoldable pub tags_known : Tables → ℕ → List Rule
  unfolding pairs
  tags_known ts tags =
      rule 18 its_tag (known ts tags its_tag)
      ∷ rule 18 its_morphology (known ts morph_tags its_morphology)
      ∷ rule 18 its_edge (known ts edge_tags its_edge)
      ∷ map (λ (p : Pair). rule 18 p.label (known ts sec_edge_tags p.label)) its_pairs

  -- 19: parent 0 needs the edge --, another parent is larger than the node's number, and no secondary parent is the node
  -- (a word's number is below 500, so of a word only the first is asked)
  unfoldable pub parents_allowed : ℕ → List Rule
  unfolding pairs
  parents_allowed its_number =
      rule 19 (text fs (parent_field format)) (pick (eqb (value its_parent) 0) (reads dashes its_edge) (ltb its_number (value its_parent)))
      ∷ map (λ (p : Pair). rule 19 p.parent (is_another its_number p)) its_pairs

-- 16: at most 512 secondary edges, of which so many stand in front of this line
abbrev pub roomy : ℕ → ℕ → List Text → Bool
roomy format edges fs = leb (edges + length (its_pairs format fs)) edge_limit

-- words count from 0; a word after a phrase can't stand
unfoldable pub word_of : ℕ → Tables → SoFar → Text → Verdict Node
unfolding pairs
word_of format ts s line =
    let fs = fields (columns line) in
    checked
    (rule 6 line s.no_phrase
    ∷ rule 7 line (shaped format fs)
    ∷ parents_written format fs
    ++ tags_short format fs word_tags
    ++ (rule 16 line (ltb s.words word_limit && roomy format s.edges fs) ∷ tags_known format fs ts word_tags)
    ++ parents_allowed format fs s.words)
    (node_of format fs s.words (text fs 0) (comment (columns line)))

-- phrases are numbered from 500 and come in any order
unfoldable pub phrase_of : ℕ → Tables → SoFar → Text → Verdict Node
unfolding pairs
phrase_of format ts s line =
    let fs = fields (columns line) in
    let its_number = number phrase_number (behind_hash (text fs 0)).bytes in
    checked
    (rule 7 line (shaped format fs)
    ∷ rule 8 (text fs 0) (good its_number)
    ∷ parents_written format fs
    ++ tags_short format fs node_tags
    ++ (rule 16 line (roomy format s.edges fs) ∷ rule 17 line (not (s.given_before (value its_number))) ∷ tags_known format fs ts node_tags)
    ++ parents_allowed format fs (value its_number))
    (node_of format fs (value its_number) no_text (comment (columns line)))
