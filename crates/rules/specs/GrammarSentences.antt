-- What a sentence of a file is. Document 01, "The file from top to bottom": `#BOS number editor date origin`, word lines,
-- phrase lines, `#EOS number`; parents are resolved against the whole sentence.
use Rattle.std.specs.Prelude.{ℕ, suc, ◌+◌, ◌≤◌, ◌<◌, ◌≡◌, ◌⊎◌, ◌↔◌, List, [], ◌∷◌, ◌++◌, map, length}
use Rattle.rules.specs.Lists.{bytes, joined, Each}
use Rattle.rules.specs.GrammarNumbers.{Range, NumberIn, IdIn, origin_range, date_range, sentence_words, sentence_edges}
use Rattle.rules.specs.GrammarNames.{of_origin, of_editor}
use Rattle.rules.specs.GrammarContent.{HeadContent, SentenceContent}
use Rattle.rules.specs.GrammarLines.{In, Differ}
use Rattle.rules.specs.GrammarColumns.{Columns, Front}
use Rattle.rules.specs.GrammarTables.{TableLines, HasRow}
use Rattle.rules.specs.GrammarNodes.{EdgeSaid, NodeLine, WordFits, PhraseLine, PhraseFits, words_say, phrase_says}

-- #BOS and what it says: editor1 is one more than the editor's id
pub record HeadLine : Type 0 where
  pub line : List ℕ
  pub number : ℕ
  pub editor1 : ℕ
  pub date : ℕ
  pub origin : ℕ
  pub comment : List ℕ

pub record SentenceLines : Type 0 where
  pub head : HeadLine
  pub words : List NodeLine
  pub phrases : List PhraseLine
  pub eos : List ℕ

-- #BOS number editor date origin; the editor and the origin are known, editors -1 and 0 without a row
pub record HeadFits (numbers : Range) (ts : List TableLines) (h : HeadLine) : Type 0 where
  pub number_text : List ℕ
  pub editor_text : List ℕ
  pub date_text : List ℕ
  pub origin_text : List ℕ
  pub columns : Front h.line (bytes "#BOS" ∷ number_text ∷ editor_text ∷ date_text ∷ origin_text ∷ []) h.comment
  pub number_written : NumberIn numbers number_text h.number
  pub editor_written : IdIn editor_text h.editor1
  pub date_written : NumberIn date_range date_text h.date
  pub origin_written : NumberIn origin_range origin_text h.origin
  pub editor_known : (h.editor1 ≤ 1) ⊎ HasRow ts of_editor h.editor1
  pub origin_known : HasRow ts of_origin (suc h.origin)

-- #EOS number
pub record EosFits (numbers : Range) (itself : ℕ) (eos : List ℕ) : Type 0 where
  pub number_text : List ℕ
  pub columns : Columns eos (bytes "#EOS" ∷ number_text ∷ [])
  pub number_written : NumberIn numbers number_text itself

-- the numbers of phrases, their nodes, and the secondary edges of nodes
abbrev pub numbers_of : List PhraseLine → List ℕ
numbers_of ps = map (λ (p : PhraseLine). p.number) ps

abbrev pub nodes_of : List PhraseLine → List NodeLine
nodes_of ps = map (λ (p : PhraseLine). p.node) ps

abbrev pub secondary_edges : List NodeLine → List EdgeSaid
secondary_edges ns = joined (map (λ (n : NodeLine). n.secondary) ns)

-- phrases are numbered from 500 without a gap: their numbers are those from 500 to 499 + their count, each once
pub record Numbered (ps : List PhraseLine) : Type 0 where
  pub differ : Differ (numbers_of ps)
  pub no_gap : (n : ℕ) → In n (numbers_of ps) ↔ ((500 ≤ n) × (n < 500 + length ps))

-- each parent other than 0 is a phrase of the sentence, secondary parents too
pub record ParentsThere (ps : List PhraseLine) (n : NodeLine) : Type 0 where
  pub parent : (n.parent ≡ 0) ⊎ In n.parent (numbers_of ps)
  pub secondary : Each (λ (e : EdgeSaid). In e.parent (numbers_of ps)) n.secondary

-- numbers is the range of sentence numbers
pub record SentenceFits (numbers : Range) (format : ℕ) (ts : List TableLines) (s : SentenceLines) : Type 0 where
  pub begins : HeadFits numbers ts s.head
  pub each_word : Each (WordFits format ts) s.words
  pub each_phrase : Each (PhraseFits format ts) s.phrases
  pub words_at_most : length s.words ≤ sentence_words
  pub edges_at_most : length (secondary_edges s.words) + length (secondary_edges (nodes_of s.phrases)) ≤ sentence_edges
  pub ends : EosFits numbers s.head.number s.eos
  pub numbered : Numbered s.phrases
  pub parents_of_words : Each (ParentsThere s.phrases) s.words
  pub parents_of_phrases : Each (ParentsThere s.phrases) (nodes_of s.phrases)

abbrev pub node_lines : List NodeLine → List (List ℕ)
node_lines ns = map (λ (n : NodeLine). n.line) ns

abbrev pub sentence_lines : SentenceLines → List (List ℕ)
sentence_lines s = s.head.line ∷ node_lines s.words ++ node_lines (nodes_of s.phrases) ++ (s.eos ∷ [])

-- ---- what they say

abbrev pub head_says : HeadLine → HeadContent
head_says h = record { number = h.number; editor1 = h.editor1; date = h.date; origin = h.origin; comment = h.comment }

abbrev pub sentence_says : SentenceLines → SentenceContent
sentence_says s = record { heading = head_says s.head; words = words_say s.words; phrases = map phrase_says s.phrases }
